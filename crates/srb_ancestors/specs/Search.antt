-- The search along links.
use Rattle.std.specs.Prelude.{◌≡◌, ◌≢◌, ◌<◌, ℕ, true, List, [], ◌∷◌, Option, Some, bytes_eq, slice_get}
use Rattle.std.specs.List.{list_any}
use Rattle.indexmap.specs.IndexSet.{insert_key}
use Rattle.srb_rules.specs.declared.link.Link.{Link}
use Rattle.srb_rules.specs.Links.{HasLink, Leads}
use Rattle.srb_ancestors.specs.Rows.{AreRows}

-- the names seen, and then the ends of the links that are new
abbrev pub with_ends : List (List ℕ) → List Link → List (List ℕ)
with_ends seen [] = seen
with_ends seen (l ∷ ls) = with_ends (insert_key bytes_eq seen l.to) ls

-- the name is among those seen
abbrev pub IsSeen : List (List ℕ) → List ℕ → Type 0
IsSeen seen d = list_any (bytes_eq d) seen ≡ true

-- A search from one name for another, of which so many names that it saw have been followed: it saw only names to which the first one
-- leads, that one among them; and of each name that was followed it saw the ends, and it isn't the one looked for.
pub record Searched (at : List ℕ → Option (List Link)) (from to : List ℕ) (seen : List (List ℕ)) (followed : ℕ) : Type 0 where
  pub begun : IsSeen seen from
  pub sound : (ls : List Link) → AreRows ls at → (d : List ℕ) → IsSeen seen d → Leads ls from d
  pub other : (j : ℕ) (c : List ℕ) → j < followed → slice_get seen j ≡ Some c → c ≢ to
  pub ends : (ls : List Link) → AreRows ls at → (j : ℕ) (c d : List ℕ) → j < followed → slice_get seen j ≡ Some c → HasLink ls c d → IsSeen seen d
