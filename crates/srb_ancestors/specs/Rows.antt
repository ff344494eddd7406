-- The rows by which links are looked up.
use Rattle.std.specs.Prelude.{◌≡◌, ℕ, Bool, false, ◌||◌, List, [], ◌∷◌, ◌++◌, Option, Some, None, bytes_eq, if◌then◌else◌, unwrap_or}
use Rattle.srb_rules.specs.declared.link.Link.{Link}
use Rattle.srb_rules.specs.Lin.{links_of}

-- whether some link begins or ends at c
abbrev pub stands : List Link → List ℕ → Bool
stands [] c = false
stands (l ∷ ls) c = bytes_eq l.of c || bytes_eq l.to c || stands ls c

-- the row of c: the links from it, if it stands in some link
abbrev pub row_of : List Link → List ℕ → Option (List Link)
row_of ls c = if stands ls c then Some (links_of ls c) else None

-- the look-up gives each name its row
abbrev pub AreRows : List Link → (List ℕ → Option (List Link)) → Type 0
AreRows ls at = (c : List ℕ) → at c ≡ row_of ls c

-- the row of c once a link was added, where it had the row r before
abbrev pub with_link_at : List ℕ → Option (List Link) → Link → Option (List Link)
with_link_at c r l =
    if bytes_eq l.of c then Some (unwrap_or r [] ++ l ∷ [])
    else (if bytes_eq l.to c then Some (unwrap_or r []) else r)

-- and once all links of a list were added in turn
abbrev pub with_links_at : List ℕ → Option (List Link) → List Link → Option (List Link)
with_links_at c r [] = r
with_links_at c r (l ∷ ls) = with_links_at c (with_link_at c r l) ls
