-- Tables of the keywords of a call, which calls with many of them have.
use Rattle.std.specs.Prelude.{◌≡◌, ℕ, List, Option, None, Some, bytes_eq, is_some}
use Rattle.std.specs.List.{find, list_any}
use Rattle.indexmap.specs.IndexMap.{IndexMap, get}
use Rattle.srb_terms.specs.declared.ty.Param.{Param}
use Rattle.srb_calls.specs.declared.args.KeyArg.{KeyArg}
use Rattle.srb_calls.specs.Counts.{is_keyword}

-- a table of parameters has at each name the first that is its keyword
abbrev pub TellsParams : {S : Type 0} → Option (IndexMap (List ℕ) Param S) → List Param → Type 0
TellsParams None params = Unit {0}
TellsParams (Some table) params = (c : List ℕ) → get bytes_eq table c ≡ find (is_keyword c) params

-- a table of arguments has the names that are given
abbrev pub TellsGiven : {X S : Type 0} → Option (IndexMap (List ℕ) X S) → List KeyArg → Type 0
TellsGiven None keys = Unit {0}
TellsGiven (Some table) keys = (c : List ℕ) → is_some (get bytes_eq table c) ≡ list_any (λ k. bytes_eq k.name c) keys
