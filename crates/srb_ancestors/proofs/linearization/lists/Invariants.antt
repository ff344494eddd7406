use Rattle.std.proofs.Common.{bytes_eq}
use Rattle.indexmap.specs.IndexMap.{get}
use Rattle.srb_ancestors.specs.Placing.{IsClosed, StayRight, nothing_made}
use Rattle.srb_ancestors.proofs.linearization.lists.Given as goal

abbrev pub invariant-order : goal.invariant-order
invariant-order l = record { closed : IsClosed (get bytes_eq l.lists); right : StayRight (get bytes_eq l.rows) nothing_made (get bytes_eq l.lists) }
