use Rattle.std.proofs.Common.{◌≡◌, ◌++◌, take}
use Rattle.std.specs.List.{flat_map}
use Rattle.srb_references.specs.Readings.{rescue_parts}
use Rattle.srb_references.proofs.rows.rescues.Given as goal

abbrev pub invariant-row : goal.invariant-row
invariant-row l = l.list ≡ l.fn.list ++ flat_map (rescue_parts l.scope) (take l.each-index l.row)
