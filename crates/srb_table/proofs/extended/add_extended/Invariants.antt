use Rattle.std.proofs.Common.{◌≡◌, ℕ, List, bytes_eq, drop}
use Rattle.std.specs.List.{fold}
use Rattle.indexmap.specs.IndexMap.{get}
use Rattle.srb_table.specs.Steps.{entry_after, extended_entry}
use Rattle.srb_table.proofs.extended.add_extended.Given as goal

abbrev pub invariant-files : goal.invariant-files
invariant-files l =
    (c : List ℕ) → fold (fold (entry_after (extended_entry l.w (get bytes_eq l.extends)) c)) (get bytes_eq l.table c) (drop l.file-index l.files) ≡ fold (fold (entry_after (extended_entry l.w (get bytes_eq l.extends)) c)) (get bytes_eq l.fn.table c) l.files
