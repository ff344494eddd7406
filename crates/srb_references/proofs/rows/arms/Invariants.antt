use Rattle.std.proofs.Common.{◌≡◌, ◌++◌, take}
use Rattle.std.specs.List.{flat_map}
use Rattle.srb_references.specs.Readings.{arm_parts}
use Rattle.srb_references.proofs.rows.arms.Given as goal

abbrev pub invariant-row : goal.invariant-row
invariant-row l = l.list ≡ l.fn.list ++ flat_map (arm_parts l.scope) (take l.each-index l.row)
