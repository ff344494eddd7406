use Rattle.std.proofs.Common.{bytes_eq}
use Rattle.indexmap.specs.IndexMap.{get}
use Rattle.srb_ancestors.specs.Placing.{AreVisited}
use Rattle.srb_ancestors.proofs.linearization.pass.Given as goal

abbrev pub invariant-rows : goal.invariant-rows
invariant-rows l = AreVisited l.rows.entries (get bytes_eq l.rows) l.index (get bytes_eq l.initial.lists) (get bytes_eq l.lists)
