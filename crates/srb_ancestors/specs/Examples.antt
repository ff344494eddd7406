-- Two small projects and their linearizations.
use Rattle.std.specs.Prelude.{◌≡◌, ℕ, List, [], ◌∷◌, codes}
use Rattle.srb_terms.specs.declared.fact.How.{How}
use Rattle.srb_terms.specs.declared.fact.How.TheVariants.{Super, Include}
use Rattle.srb_rules.specs.declared.link.Link.{Link}
use Rattle.srb_rules.specs.Links.{circular_links, counted}
use Rattle.srb_rules.specs.Lin.{lin_of}

abbrev pub link : List ℕ → How → List ℕ → Link
link of how to = record { of = of; to = to; how = how }

-- class P includes B; class C < P includes A and then B; Object includes Kernel
abbrev pub MIXED : List Link
MIXED =
    link (codes "Object") Super (codes "BasicObject") ∷ link (codes "Object") Include (codes "Kernel")
    ∷ link (codes "P") Super (codes "Object") ∷ link (codes "P") Include (codes "B")
    ∷ link (codes "C") Super (codes "P") ∷ link (codes "C") Include (codes "A") ∷ link (codes "C") Include (codes "B") ∷ []

-- a module that the superclass has already is not looked at again
abbrev pub MixedLin : Type 0
MixedLin =
    lin_of MIXED (codes "C")
    ≡ codes "C" ∷ codes "A" ∷ codes "P" ∷ codes "B" ∷ codes "Object" ∷ codes "Kernel" ∷ codes "BasicObject" ∷ []

-- M includes A, B, and A again; A includes K, and B includes K
abbrev pub NESTED : List Link
NESTED =
    link (codes "A") Include (codes "K") ∷ link (codes "B") Include (codes "K")
    ∷ link (codes "M") Include (codes "A") ∷ link (codes "M") Include (codes "B") ∷ link (codes "M") Include (codes "A") ∷ []

-- the last module comes first, A stands at its first place, and K comes once
abbrev pub NestedLin : Type 0
NestedLin = lin_of NESTED (codes "M") ≡ codes "M" ∷ codes "B" ∷ codes "K" ∷ codes "A" ∷ []

-- A and B are each other's superclass, C inherits A, and D includes itself twice
abbrev pub CIRCLES : List Link
CIRCLES =
    link (codes "C") Super (codes "A") ∷ link (codes "D") Include (codes "D") ∷ link (codes "A") Super (codes "B")
    ∷ link (codes "B") Super (codes "A") ∷ link (codes "D") Include (codes "D") ∷ []

-- the link from C into the circle is not circular
abbrev pub CircularOnes : Type 0
CircularOnes =
    circular_links CIRCLES
    ≡ link (codes "D") Include (codes "D") ∷ link (codes "A") Super (codes "B") ∷ link (codes "B") Super (codes "A")
    ∷ link (codes "D") Include (codes "D") ∷ []

abbrev pub CountedOnes : Type 0
CountedOnes = counted CIRCLES ≡ link (codes "C") Super (codes "A") ∷ []

-- no link of the first project is circular
abbrev pub MixedCounts : Type 0
MixedCounts = counted MIXED ≡ MIXED
