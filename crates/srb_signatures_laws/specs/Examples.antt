-- The place of an error of signatures in its tree.
use Rattle.std.specs.Prelude.{false, [], ◌∷◌, codes, None}
use Rattle.rb_tree.specs.Nodes as tree
use Rattle.rb_tree.specs.declared.syntax.Tree.{Tree}
use Rattle.rb_grammar.specs.Examples.{from_to}
use Rattle.rb_places_laws.specs.TreePlaces.{IsPlaceIn}

-- `def f; end`
abbrev pub EMPTY : Tree
EMPTY = tree.Body [] (from_to 0 0)

abbrev pub DEF : Tree
DEF = tree.Def None false (codes "f") (from_to 4 5) [] (record { body = EMPTY; rescues = []; otherwise = None; ensure = None }) (from_to 0 10)

abbrev pub METHOD : Tree
METHOD = tree.Body (DEF ∷ []) (from_to 0 10)

-- the `f`
abbrev pub NameIsAPlace : Type 0
NameIsAPlace = IsPlaceIn METHOD (from_to 4 5)
