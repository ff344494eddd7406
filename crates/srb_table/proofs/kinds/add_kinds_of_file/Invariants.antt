use Rattle.std.proofs.Common.{◌≡◌, ℕ, List, bytes_eq, drop}
use Rattle.std.specs.List.{fold}
use Rattle.indexmap.specs.IndexMap.{get}
use Rattle.srb_table.specs.Steps.{kind_after}
use Rattle.srb_table.proofs.kinds.add_kinds_of_file.Given as goal

abbrev pub invariant-facts : goal.invariant-facts
invariant-facts l =
    (c : List ℕ) → fold (kind_after c) (get bytes_eq l.kinds c) (drop l.fact-index l.facts) ≡ fold (kind_after c) (get bytes_eq l.fn.kinds c) l.facts
