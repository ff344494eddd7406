use Rattle.std.proofs.Common.{◌≡◌}
use Rattle.srb_rules.specs.Lookup as rules
use Rattle.srb_terms.specs.Worlds.{within_at}
use Rattle.srb_constants.proofs.lookup.in_front.Given as goal

abbrev pub invariant-loop-member : goal.invariant-loop-member
invariant-loop-member l = rules.in_members (within_at l.w) (rules.before_object l.at) l.name ≡ rules.in_members (within_at l.fn.w) (rules.before_object l.fn.members) l.fn.name
