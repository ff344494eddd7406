use Rattle.std.proofs.Common.{◌≡◌, ◌≤◌, true, length, drop}
use Rattle.srb_types.specs.Order.{before_all}
use Rattle.srb_types.proofs.order.place.Given as goal

abbrev pub decreases-texts : goal.decreases-texts
decreases-texts l = l.at

abbrev pub invariant-texts : goal.invariant-texts
invariant-texts l = (l.at ≤ length l.texts) × (before_all (λ u. u) l.t (drop l.at l.texts) ≡ true)
