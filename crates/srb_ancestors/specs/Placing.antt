-- Making the lists of names, each once those of the ends of its links are made.
use Rattle.std.specs.Prelude.{◌≡◌, ℕ, ◌⊎◌, ◌<◌, true, List, [], ◌∷◌, Option, Some, None, is_some, slice_get, length}
use Rattle.srb_rules.specs.declared.link.Link.{Link}
use Rattle.srb_rules.specs.Links.{Reaches}
use Rattle.srb_rules.specs.Lin.{lin_by, lin_of}
use Rattle.srb_ancestors.specs.Rows.{AreRows, stands}
use Rattle.srb_ancestors.specs.Lists.{list_in}
use Rattle.srb_ancestors.specs.Ways.{HasEnd}

-- what a look-up in the lists that were made gives
abbrev pub Made : Type 0
Made = List ℕ → Option (List (List ℕ))

-- c has a list
abbrev pub IsMade : Made → List ℕ → Type 0
IsMade made c = is_some (made c) ≡ true

-- the ends of the links of a row have lists
abbrev pub EndsMade : Made → List Link → Type 0
EndsMade made row = (d : List ℕ) → HasEnd row d → IsMade made d

-- P holds of each name
abbrev pub Each : (List ℕ → Type 0) → List (List ℕ) → Type 0
Each P [] = Unit {0}
Each P (x ∷ xs) = P x × Each P xs

-- each name in a list that was made has a list
abbrev pub IsClosed : Made → Type 0
IsClosed made = (c : List ℕ) (xs : List (List ℕ)) → made c ≡ Some xs → Each (IsMade made) xs

-- each list that was made is the linearization of a name that stands in a link
abbrev pub AreRight : List Link → Made → Type 0
AreRight ls made = (c : List ℕ) (xs : List (List ℕ)) → made c ≡ Some xs → (stands ls c ≡ true) × (xs ≡ lin_of ls c)

-- no name reaches itself
abbrev pub NoneReachesItself : List Link → Type 0
NoneReachesItself ls = (a : List ℕ) → ¬ Reaches ls a a

-- lists that are right for the links of the rows, where no name reaches itself, stay so
abbrev pub StayRight : (List ℕ → Option (List Link)) → Made → Made → Type 0
StayRight rows old new = (ls : List Link) → AreRows ls rows → NoneReachesItself ls → AreRight ls old → AreRight ls new

-- a name that has a list keeps one
abbrev pub StayMade : Made → Made → Type 0
StayMade old new = (c : List ℕ) → IsMade old c → IsMade new c

-- what making the list of one name does: each list is an old one, or the one that the links of the row and the old lists give the
-- name, where their ends had lists; and then the name has one
pub record IsPlaced (name : List ℕ) (row : List Link) (old new : Made) : Type 0 where
  pub stay : StayMade old new
  pub only : (c : List ℕ) (xs : List (List ℕ)) → new c ≡ Some xs → (old c ≡ Some xs) ⊎ ((name ≡ c) × (xs ≡ lin_by (list_in old) row c) × EndsMade old row)
  pub made : EndsMade old row → IsMade new name

-- what making the list of the row at an index does, if there is one
pub record IsVisited (rows : List (List ℕ × List Link)) (at : List ℕ → Option (List Link)) (index : ℕ) (old new : Made) : Type 0 where
  pub right : StayRight at old new
  pub stay : StayMade old new
  pub made : (name : List ℕ) (row : List Link) → slice_get rows index ≡ Some (name, row) → EndsMade old row → IsMade new name

-- what making the lists of the first rows does
pub record AreVisited (rows : List (List ℕ × List Link)) (at : List ℕ → Option (List Link)) (count : ℕ) (old new : Made) : Type 0 where
  pub closed : IsClosed new
  pub right : StayRight at old new
  pub stay : StayMade old new
  pub made : (j : ℕ) (name : List ℕ) (row : List Link) → j < count → slice_get rows j ≡ Some (name, row) → EndsMade old row → IsMade new name

-- what making the lists of all rows does
pub record AllVisited (at : List ℕ → Option (List Link)) (old new : Made) : Type 0 where
  pub closed : IsClosed new
  pub right : StayRight at old new
  pub made : (c : List ℕ) (row : List Link) → at c ≡ Some row → EndsMade old row → IsMade new c

-- each name that has a row has a list
abbrev pub AllMade : (List ℕ → Option (List Link)) → Made → Type 0
AllMade at made = (c : List ℕ) (row : List Link) → at c ≡ Some row → IsMade made c

-- each name that stands in a link has a list, where the links are so many and no name reaches itself
abbrev pub StandingMade : (List ℕ → Option (List Link)) → ℕ → Made → Type 0
StandingMade at count made =
    (ls : List Link) → AreRows ls at → length ls ≡ count → NoneReachesItself ls → (c : List ℕ) → stands ls c ≡ true → IsMade made c

-- the lists before any was made
abbrev pub nothing_made : Made
nothing_made c = None
