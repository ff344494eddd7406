-- Paths and what is kept by path. A path is the list of its bytes. A set of paths and a map from paths are lists in
-- byte order of the paths, in which a path stands once.
use Rattle.std.specs.Prelude.{ℕ, Bool, false, ◌||◌, List, [], ◌∷◌, Option, Some, None, bytes_eq, if◌then◌else◌}
use Rattle.std.specs.Cmp.Lexicographic.{slice_cmp}
use Rattle.std.specs.Ordering.{nat_cmp, is_lt}

abbrev pub Path : Type 0
Path = List ℕ

abbrev pub Bytes : Type 0
Bytes = List ℕ

-- the first path stands before the second in byte order
abbrev pub is_before : Path → Path → Bool
is_before f g = is_lt (slice_cmp nat_cmp f g)

-- whether the path is in the set
abbrev pub has : Path → List Path → Bool
has f [] = false
has f (g ∷ gs) = bytes_eq f g || has f gs

-- the set and the path
abbrev pub with_path : Path → List Path → List Path
with_path f [] = f ∷ []
with_path f (g ∷ gs) =
    if bytes_eq f g then g ∷ gs else (if is_before f g then f ∷ g ∷ gs else g ∷ with_path f gs)

-- the set without the path
abbrev pub without_path : Path → List Path → List Path
without_path f [] = []
without_path f (g ∷ gs) = if bytes_eq f g then without_path f gs else g ∷ without_path f gs

-- both sets together
abbrev pub with_paths : List Path → List Path → List Path
with_paths [] gs = gs
with_paths (f ∷ fs) gs = with_path f (with_paths fs gs)

-- what the map has at the path
abbrev pub lookup : {A : Type 0} → Path → List (Path × A) → Option A
lookup f [] = None
lookup f (p ∷ ps) = if bytes_eq f p.0 then Some p.1 else lookup f ps

-- the map with this value at the path, in the place of what it had there
abbrev pub put : {A : Type 0} → Path → A → List (Path × A) → List (Path × A)
put f a [] = (f, a) ∷ []
put f a (p ∷ ps) =
    if bytes_eq f p.0 then (f, a) ∷ ps else (if is_before f p.0 then (f, a) ∷ p ∷ ps else p ∷ put f a ps)
