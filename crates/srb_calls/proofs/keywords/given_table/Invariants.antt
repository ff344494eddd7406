use Rattle.std.proofs.Common.{◌≡◌, ℕ, List, ◌||◌, bytes_eq, drop, is_some}
use Rattle.std.specs.List.{list_any}
use Rattle.indexmap.specs.IndexMap.{get}
use Rattle.srb_calls.proofs.keywords.given_table.Given as goal

abbrev pub invariant-keys : goal.invariant-keys
invariant-keys l =
    (c : List ℕ) → is_some (get bytes_eq l.table c) || list_any (λ k. bytes_eq k.name c) (drop l.k-index l.keys)
    ≡ list_any (λ k. bytes_eq k.name c) l.keys
