use Rattle.std.proofs.Common.{◌≡◌, ℕ, List, bytes_eq, drop}
use Rattle.std.specs.List.{fold}
use Rattle.indexmap.specs.IndexMap.{get}
use Rattle.srb_table.specs.Steps.{kind_after}
use Rattle.srb_table.proofs.kinds.add_kinds.Given as goal

abbrev pub invariant-files : goal.invariant-files
invariant-files l =
    (c : List ℕ) → fold (fold (kind_after c)) (get bytes_eq l.kinds c) (drop l.file-index l.files) ≡ fold (fold (kind_after c)) (get bytes_eq l.fn.kinds c) l.files
