use Rattle.std.proofs.Common.{◌≡◌, ◌++◌, take}
use Rattle.std.specs.List.{flat_map}
use Rattle.srb_references.specs.Readings.{argument_parts}
use Rattle.srb_references.proofs.rows.row.Given as goal

abbrev pub invariant-arguments : goal.invariant-arguments
invariant-arguments l = l.list ≡ l.fn.list ++ flat_map (argument_parts l.scope l.taken) (take l.each-index l.arguments)
