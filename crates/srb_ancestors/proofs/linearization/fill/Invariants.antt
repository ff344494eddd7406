use Rattle.std.proofs.Common.{◌≡◌, ℕ, List, true, bytes_eq}
use Rattle.indexmap.specs.IndexMap.{get}
use Rattle.srb_rules.specs.declared.link.Link.{Link}
use Rattle.srb_ancestors.specs.Rows.{AreRows, stands}
use Rattle.srb_ancestors.specs.Placing.{IsClosed, IsMade, StayRight}
use Rattle.srb_ancestors.proofs.WayProofs.{Ends}
use Rattle.srb_ancestors.proofs.linearization.fill.Given as goal

-- after so many passes each name has a list, from which each way has fewer links
abbrev pub invariant-passes : goal.invariant-passes
invariant-passes l = record {
  closed : IsClosed (get bytes_eq l.lists);
  right : StayRight (get bytes_eq l.rows) (get bytes_eq l.initial.lists) (get bytes_eq l.lists);
  made : (ls : List Link) → AreRows ls (get bytes_eq l.rows) → (c : List ℕ) → stands ls c ≡ true → Ends l.turn ls c → IsMade (get bytes_eq l.lists) c;
}
