-- What a list of links connects, and which links are circular.
use Rattle.std.specs.Prelude.{◌≡◌, ℕ, ◌⊎◌, Bool, not, ◌&&◌, ◌||◌, List, [], ◌∷◌, bytes_eq}
use Rattle.std.specs.List.{filter}
use Rattle.srb_rules.specs.declared.link.Link.{Link}

-- some link of the list goes from a to b
abbrev pub HasLink : List Link → List ℕ → List ℕ → Type 0
HasLink [] a b = ⊥
HasLink (l ∷ ls) a b = ((l.of ≡ a) × (l.to ≡ b)) ⊎ HasLink ls a b

-- a reaches b by one link or by more
pub data Reaches : List Link → List ℕ → List ℕ → Type 0 where
  Directly : (ls : List Link) (a b : List ℕ) → HasLink ls a b → Reaches ls a b
  Through : (ls : List Link) (a b c : List ℕ) → HasLink ls a b → Reaches ls b c → Reaches ls a c

-- a is b, or reaches it
abbrev pub Leads : List Link → List ℕ → List ℕ → Type 0
Leads ls a b = (a ≡ b) ⊎ Reaches ls a b

-- a link from C to D is circular where D is C or reaches C
abbrev pub IsCircular : List Link → Link → Type 0
IsCircular ls l = Leads ls l.to l.of

-- Whether a is b or reaches it, told link by link: with one more link it does where it does without that link, or where a leads to
-- the link's beginning and the link's end leads to b.
abbrev pub leads : List Link → List ℕ → List ℕ → Bool
leads [] a b = bytes_eq a b
leads (l ∷ ls) a b = leads ls a b || (leads ls a l.of && leads ls l.to b)

-- whether the link is circular
abbrev pub is_circular : List Link → Link → Bool
is_circular ls l = leads ls l.to l.of

-- the circular links, in the order of the links, each as often as it stands
abbrev pub circular_links : List Link → List Link
circular_links ls = filter (is_circular ls) ls

-- the links that count: those that are not circular
abbrev pub counted : List Link → List Link
counted ls = filter (λ l. not (is_circular ls l)) ls
