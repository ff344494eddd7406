use Rattle.std.proofs.Common.{◌≡◌, ◌≤◌, true, length, drop}
use Rattle.srb_types.specs.Order.{before_all}
use Rattle.srb_types.specs.Shown.{shown}
use Rattle.srb_types.proofs.parts.place.Given as goal

abbrev pub decreases-parts : goal.decreases-parts
decreases-parts l = l.at

abbrev pub invariant-parts : goal.invariant-parts
invariant-parts l = (l.at ≤ length l.parts) × (before_all shown l.t (drop l.at l.parts) ≡ true)
