use Rattle.std.proofs.Common.{◌≡◌, ℕ, List, bytes_eq, drop}
use Rattle.std.specs.List.{fold}
use Rattle.indexmap.specs.IndexMap.{get}
use Rattle.srb_table.specs.Steps.{entry_after, extended_entry}
use Rattle.srb_table.proofs.extended.add_extended_of_file.Given as goal

abbrev pub invariant-facts : goal.invariant-facts
invariant-facts l =
    (c : List ℕ) → fold (entry_after (extended_entry l.w (get bytes_eq l.extends)) c) (get bytes_eq l.table c) (drop l.fact-index l.facts) ≡ fold (entry_after (extended_entry l.w (get bytes_eq l.extends)) c) (get bytes_eq l.fn.table c) l.facts
