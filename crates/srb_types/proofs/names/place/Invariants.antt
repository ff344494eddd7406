use Rattle.std.proofs.Common.{◌≡◌, ◌≤◌, true, length, drop}
use Rattle.srb_types.specs.Order.{before_all}
use Rattle.srb_types.proofs.names.place.Given as goal

abbrev pub decreases-names : goal.decreases-names
decreases-names l = l.at

abbrev pub invariant-names : goal.invariant-names
invariant-names l = (l.at ≤ length l.names) × (before_all (λ u. u) l.c (drop l.at l.names) ≡ true)
