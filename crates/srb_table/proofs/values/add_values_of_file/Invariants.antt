use Rattle.std.proofs.Common.{◌≡◌, ℕ, List, bytes_eq, drop}
use Rattle.std.specs.List.{fold}
use Rattle.indexmap.specs.IndexMap.{get}
use Rattle.srb_table.specs.Steps.{value_after}
use Rattle.srb_table.proofs.values.add_values_of_file.Given as goal

abbrev pub invariant-facts : goal.invariant-facts
invariant-facts l =
    (c : List ℕ) → fold (value_after l.w c) (get bytes_eq l.table c) (drop l.fact-index l.facts) ≡ fold (value_after l.w c) (get bytes_eq l.fn.table c) l.facts
