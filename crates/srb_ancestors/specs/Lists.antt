-- Linearizations by name.
use Rattle.std.specs.Prelude.{◌≡◌, ℕ, List, [], ◌∷◌, Option, Some, None, bytes_eq, if◌then◌else◌, unwrap_or}
use Rattle.std.specs.Map.{lookup}
use Rattle.srb_rules.specs.declared.link.Link.{Link}
use Rattle.srb_rules.specs.Lin.{lin_of}
use Rattle.srb_ancestors.specs.Rows.{stands}

-- the list that the linearizations have for c
abbrev pub lin_at : List (List ℕ × List (List ℕ)) → List ℕ → Option (List (List ℕ))
lin_at lins c = lookup (bytes_eq c) lins

-- the linearization of c, if it stands in some link
abbrev pub lin_row : List Link → List ℕ → Option (List (List ℕ))
lin_row ls c = if stands ls c then Some (lin_of ls c) else None

-- the look-up gives each name that stands in a link its linearization, and no other name any
abbrev pub AreLins : List Link → (List ℕ → Option (List (List ℕ))) → Type 0
AreLins ls at = (c : List ℕ) → at c ≡ lin_row ls c

-- the list that the look-up gives, or none
abbrev pub list_in : (List ℕ → Option (List (List ℕ))) → List ℕ → List (List ℕ)
list_in at c = unwrap_or (at c) []

-- what the look-up gives at d once c has the list of itself alone, where it had none
abbrev pub alone_at : List ℕ → (List ℕ → Option (List (List ℕ))) → List ℕ → Option (List (List ℕ))
alone_at c at d = if bytes_eq c d then Some (unwrap_or (at c) (c ∷ [])) else at d
