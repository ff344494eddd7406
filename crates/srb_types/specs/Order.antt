-- Lists in the order of the bytes of their elements' texts.
use Rattle.std.specs.Prelude.{ℕ, Bool, List, [], ◌∷◌, if◌then◌else◌}
use Rattle.std.specs.Cmp.Lexicographic.{slice_cmp}
use Rattle.std.specs.List.{list_all}
use Rattle.std.specs.Ordering.{is_lt, nat_cmp}

-- whether the first text stands before the second one, by their bytes
abbrev pub is_before : List ℕ → List ℕ → Bool
is_before t u = is_lt (slice_cmp nat_cmp t u)

-- whether a text stands before the texts of all elements
abbrev pub before_all : {A : Type 0} → (A → List ℕ) → List ℕ → List A → Bool
before_all text t xs = list_all (λ x. is_before t (text x)) xs

-- the list with one more element, which stands before those at the end whose texts come after its own
abbrev pub placed : {A : Type 0} → (A → List ℕ) → A → List A → List A
placed text p [] = p ∷ []
placed text p (x ∷ xs) = if before_all text (text p) (x ∷ xs) then p ∷ x ∷ xs else x ∷ placed text p xs
