use Rattle.std.proofs.Common.{◌≡◌, ℕ, List, bytes_eq, drop}
use Rattle.std.specs.List.{fold}
use Rattle.indexmap.specs.IndexMap.{get}
use Rattle.srb_table.specs.Steps.{deciding_after, inherited_at}
use Rattle.srb_table.proofs.deciding.add_deciding.Given as goal

abbrev pub invariant-files : goal.invariant-files
invariant-files l =
    (c : List ℕ) → fold (fold (deciding_after (inherited_at l.w) c)) (get bytes_eq l.table c) (drop l.file-index l.files) ≡ fold (fold (deciding_after (inherited_at l.w) c)) (get bytes_eq l.fn.table c) l.files
