use Rattle.std.proofs.Common.{◌≡◌, ℕ, List, bytes_eq, drop}
use Rattle.std.specs.List.{find}
use Rattle.std.specs.Option.{option_or}
use Rattle.indexmap.specs.IndexMap.{get}
use Rattle.srb_calls.specs.Counts as spec
use Rattle.srb_calls.proofs.keywords.params_table.Given as goal

abbrev pub invariant-params : goal.invariant-params
invariant-params l =
    (c : List ℕ) → option_or (get bytes_eq l.table c) (find (spec.is_keyword c) (drop l.p-index l.params)) ≡ find (spec.is_keyword c) l.params
