-- Laws on circular links and on linearizations.
use Rattle.std.specs.Prelude.{◌≡◌, ◌↔◌, ℕ, true, false, List, [], ◌∷◌}
use Rattle.srb_terms.specs.NameSets.{has_name}
use Rattle.srb_rules.specs.declared.link.Link.{Link}
use Rattle.srb_rules.specs.Links.{HasLink, Leads, IsCircular, leads, is_circular, circular_links, counted}
use Rattle.srb_rules.specs.Lin.{lin_step, lin_of}
use Rattle.srb_ancestors.specs.Placing.{NoneReachesItself}
use Rattle.srb_ancestors.specs.Rows.{stands}

-- the test that goes link by link says whether a is b or reaches it
abbrev pub LeadsIsTold : Type 0
LeadsIsTold = (ls : List Link) (a b : List ℕ) → (leads ls a b ≡ true) ↔ Leads ls a b

-- and so whether a link is circular
abbrev pub CircularIsTold : Type 0
CircularIsTold = (ls : List Link) (l : Link) → (is_circular ls l ≡ true) ↔ IsCircular ls l

-- where no link is circular, no name reaches itself
abbrev pub NoCircularLink : Type 0
NoCircularLink = (ls : List Link) → circular_links ls ≡ [] → NoneReachesItself ls

-- by the links that count no name reaches itself
abbrev pub CountedHaveNoCircle : Type 0
CountedHaveNoCircle = (ls : List Link) → NoneReachesItself (counted ls)

-- where no name reaches itself, the linearization is what one step makes of those of the ends
abbrev pub EquationHolds : Type 0
EquationHolds = (ls : List Link) → NoneReachesItself ls → (c : List ℕ) → lin_of ls c ≡ lin_step ls (lin_of ls) c

-- and nothing else is
abbrev pub EquationHasOneSolution : Type 0
EquationHasOneSolution =
    (ls : List Link) → NoneReachesItself ls → (f : List ℕ → List (List ℕ)) → ((c : List ℕ) → f c ≡ lin_step ls f c) → (c : List ℕ) → f c ≡ lin_of ls c

-- a name from which no link goes is alone in its linearization
abbrev pub StandsAlone : Type 0
StandsAlone = (ls : List Link) (c : List ℕ) → ((d : List ℕ) → ¬ HasLink ls c d) → lin_of ls c ≡ c ∷ []

-- and so is a name that stands in no link
abbrev pub OthersAreAlone : Type 0
OthersAreAlone = (ls : List Link) (c : List ℕ) → stands ls c ≡ false → lin_of ls c ≡ c ∷ []

-- the members of a linearization are the name and names that it reaches
abbrev pub MembersAreReached : Type 0
MembersAreReached = (ls : List Link) (c d : List ℕ) → has_name d (lin_of ls c) ≡ true → Leads ls c d
