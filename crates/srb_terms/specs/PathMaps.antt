-- Values by path: pairs in byte order of their paths, each path once, and what stands in them. A path is the list of its bytes.
use Rattle.std.specs.Prelude.{◌≡◌, ℕ, zero, suc, ◌≤◌, List, [], ◌∷◌, length, take, drop, slice_get, Option, None, Some, bytes_eq, if◌then◌else◌}
use Rattle.std.specs.Cmp.Lexicographic.{slice_cmp}
use Rattle.std.specs.Ordering.{match_ordering, nat_cmp}
use Rattle.std.specs.declared.cmp.Ordering.{Ordering}
use Rattle.std.specs.declared.cmp.Ordering.TheVariants.{Less, Greater}

-- how two paths stand in byte order
abbrev pub path_cmp : List ℕ → List ℕ → Ordering
path_cmp = slice_cmp nat_cmp

-- the path stands before that of each entry, in byte order
abbrev pub IsBeforeAll : {A : Type 0} → List ℕ → List (List ℕ × A) → Type 0
IsBeforeAll path [] = Unit {0}
IsBeforeAll path (entry ∷ entries) = (path_cmp path entry.0 ≡ Less) × IsBeforeAll path entries

-- the path stands after that of each entry, in byte order
abbrev pub IsAfterAll : {A : Type 0} → List ℕ → List (List ℕ × A) → Type 0
IsAfterAll path [] = Unit {0}
IsAfterAll path (entry ∷ entries) = (path_cmp path entry.0 ≡ Greater) × IsAfterAll path entries

-- the entries stand in byte order of their paths, each path once
abbrev pub IsOrdered : {A : Type 0} → List (List ℕ × A) → Type 0
IsOrdered [] = Unit {0}
IsOrdered (entry ∷ entries) = IsBeforeAll entry.0 entries × IsOrdered entries

-- the value at the path, if there is one
abbrev pub value_at : {A : Type 0} → List ℕ → List (List ℕ × A) → Option A
value_at path [] = None
value_at path (entry ∷ entries) = if bytes_eq path entry.0 then Some entry.1 else value_at path entries

-- the entries with this value at the path: in the place of the value there, or as a new entry in order
abbrev pub put_value : {A : Type 0} → List ℕ → A → List (List ℕ × A) → List (List ℕ × A)
put_value path value [] = (path, value) ∷ []
put_value path value (entry ∷ entries) =
    match_ordering (path_cmp path entry.0)
    ((path, value) ∷ entry ∷ entries)
    ((path, value) ∷ entries)
    (entry ∷ put_value path value entries)

-- the entries with this value in that at the index
abbrev pub set_value : {A : Type 0} → List (List ℕ × A) → ℕ → A → List (List ℕ × A)
set_value [] i value = []
set_value (entry ∷ entries) zero value = (entry.0, value) ∷ entries
set_value (entry ∷ entries) (suc i) value = entry ∷ set_value entries i value

-- an entry of the path would stand before that at this index
pub record IsPlaceOf {A : Type 0} (path : List ℕ) (entries : List (List ℕ × A)) (i : ℕ) : Type 0 where
  pub within : i ≤ length entries
  pub after : IsAfterAll path (take i entries)
  pub before : IsBeforeAll path (drop i entries)

-- the entry at this index is that of the path
abbrev pub IsEntryOf : {A : Type 0} → List ℕ → List (List ℕ × A) → ℕ → Type 0
IsEntryOf {A} path entries i = (value : A) × (slice_get entries i ≡ Some (path, value))

-- the entries, and for how many more there is room
pub record PathList (A : Type 0) : Type 0 where
  pub entries : List (List ℕ × A)
  pub room : ℕ

-- the same with this value in the entry at the index
abbrev pub with_value : {A : Type 0} → PathList A → ℕ → A → PathList A
with_value map i value = record map { entries = set_value map.entries i value }
