use Rattle.std.proofs.Common.{◌≡◌}
use Rattle.srb_rules.specs.Lookup as rules
use Rattle.srb_rules.specs.Standing.{ancestors_at}
use Rattle.srb_terms.specs.Worlds.{within_at}
use Rattle.srb_constants.proofs.lookup.follow.Given as goal

abbrev pub invariant-loop-name : goal.invariant-loop-name
invariant-loop-name l = rules.followed (within_at l.w) (ancestors_at l.w l.position) l.at l.found ≡ rules.followed (within_at l.fn.w) (ancestors_at l.fn.w l.fn.position) l.fn.names l.fn.owner
