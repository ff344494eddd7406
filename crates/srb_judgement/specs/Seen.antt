-- The variables that are visible, as the code keeps them: a short list, and a set.
use Rattle.std.specs.Prelude.{ℕ, List, [], Option, Some, None}

-- the names in the set, where there is one
abbrev pub names_in : {S : Type 0} → (S → List (List ℕ)) → Option S → List (List ℕ)
names_in keys None = []
names_in keys (Some set) = keys set
