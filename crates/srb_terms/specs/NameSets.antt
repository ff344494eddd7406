-- Which names stand in a list.
use Rattle.std.specs.Prelude.{ℕ, Bool, true, false, List, [], ◌∷◌, bytes_eq, if◌then◌else◌}

-- whether the name stands in the list
abbrev pub has_name : List ℕ → List (List ℕ) → Bool
has_name name [] = false
has_name name (first ∷ rest) = if bytes_eq first name then true else has_name name rest
