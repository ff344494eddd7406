use Rattle.std.proofs.Common.{◌≡◌}
use Rattle.srb_rules.specs.Lookup as rules
use Rattle.srb_terms.specs.Worlds.{within_at}
use Rattle.srb_constants.proofs.lookup.in_bodies.Given as goal

abbrev pub invariant-loop-body : goal.invariant-loop-body
invariant-loop-body l = rules.in_bodies (within_at l.w) l.at l.name ≡ rules.in_bodies (within_at l.fn.w) l.fn.scope l.fn.name
