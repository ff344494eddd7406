-- The places of a class with a path and a superclass.
use Rattle.std.specs.Prelude.{false, [], ◌∷◌, codes, Some}
use Rattle.rb_tree.specs.Nodes as tree
use Rattle.rb_tree.specs.declared.syntax.Tree.{Tree}
use Rattle.rb_grammar.specs.Examples.{from_to}
use Rattle.rb_places_laws.specs.TreePlaces.{IsPlaceIn}

-- `class A::B < C; end`
abbrev pub LONG_CLASS : Tree
LONG_CLASS = tree.Class (record { name = codes "A"; span = from_to 6 7 } ∷ record { name = codes "B"; span = from_to 9 10 } ∷ [])
    (Some (record { top = false; path = record { name = codes "C"; span = from_to 13 14 } ∷ []; span = from_to 13 14 }))
    (tree.Body [] (from_to 0 0)) (from_to 0 19)

-- the `A`
abbrev pub FrontIsAPlace : Type 0
FrontIsAPlace = IsPlaceIn LONG_CLASS (from_to 6 7)

-- the `A::B`
abbrev pub PathIsAPlace : Type 0
PathIsAPlace = IsPlaceIn LONG_CLASS (from_to 6 10)

-- the `C`
abbrev pub SuperclassIsAPlace : Type 0
SuperclassIsAPlace = IsPlaceIn LONG_CLASS (from_to 13 14)

-- the `::` isn't one
abbrev pub ColonsAreNoPlace : Type 0
ColonsAreNoPlace = ¬ IsPlaceIn LONG_CLASS (from_to 7 9)
