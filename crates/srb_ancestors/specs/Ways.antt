-- Ways along links.
use Rattle.std.specs.Prelude.{◌≡◌, ℕ, ◌⊎◌, Bool, true, List, [], ◌∷◌}
use Rattle.srb_rules.specs.declared.link.Link.{Link}
use Rattle.srb_rules.specs.Links.{HasLink}

-- some link of the list ends at d
abbrev pub HasEnd : List Link → List ℕ → Type 0
HasEnd [] d = ⊥
HasEnd (l ∷ ls) d = (l.to ≡ d) ⊎ HasEnd ls d

-- each way from c ends
pub data Settles (ls : List Link) : List ℕ → Type 0 where
  Ended : (c : List ℕ) → ((d : List ℕ) → HasLink ls c d → Settles ls d) → Settles ls c

-- each way ends from each name that passes the test
abbrev pub AreSettled : List Link → (List ℕ → Bool) → Type 0
AreSettled ls has = (c : List ℕ) → has c ≡ true → Settles ls c

-- what passes the new test passed the old one, or is the name, and the end of each link of its row passed the old one
abbrev pub SettlesAt : List ℕ → List Link → (List ℕ → Bool) → (List ℕ → Bool) → Type 0
SettlesAt name row old new =
    (c : List ℕ) → new c ≡ true → (old c ≡ true) ⊎ ((name ≡ c) × ((d : List ℕ) → HasEnd row d → old d ≡ true))
