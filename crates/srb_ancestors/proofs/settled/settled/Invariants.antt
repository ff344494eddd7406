use Rattle.std.proofs.Common.{List, bytes_eq}
use Rattle.indexmap.specs.IndexMap.{get}
use Rattle.indexmap.specs.IndexSet.{contains}
use Rattle.srb_rules.specs.declared.link.Link.{Link}
use Rattle.srb_ancestors.specs.Rows.{AreRows}
use Rattle.srb_ancestors.specs.Ways.{AreSettled}
use Rattle.srb_ancestors.proofs.settled.settled.Given as goal

abbrev pub invariant-order : goal.invariant-order
invariant-order l = (ls : List Link) → AreRows ls (get bytes_eq l.rows) → AreSettled ls (contains bytes_eq l.settled)
