use Rattle.std.proofs.Common.{◌≡◌, ◌++◌, map, take}
use Rattle.srb_references.specs.Readings.{visit}
use Rattle.srb_references.proofs.rows.trees.Given as goal

abbrev pub invariant-row : goal.invariant-row
invariant-row l = l.list ≡ l.fn.list ++ map (visit l.reading l.scope) (take l.tree-index l.row)
