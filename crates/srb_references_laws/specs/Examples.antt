-- The places of a reference and of a malformed type expression in their trees.
use Rattle.std.specs.Prelude.{[], ◌∷◌, codes, Some, None}
use Rattle.rb_tree.specs.Nodes as tree
use Rattle.rb_tree.specs.declared.syntax.Argument.TheVariants as argument
use Rattle.rb_tree.specs.declared.syntax.Dot.TheVariants as dot
use Rattle.rb_tree.specs.declared.syntax.Suffix.TheVariants as suffix
use Rattle.rb_tree.specs.declared.syntax.Tree.{Tree}
use Rattle.rb_places_laws.specs.TreePlaces.{IsPlaceIn}
use Rattle.srb_references.specs.Examples.{CLASS, from_to}

-- the `A` of `class A::B < P; ..; end`
abbrev pub FrontIsAPlace : Type 0
FrontIsAPlace = IsPlaceIn CLASS (from_to 6 7)

-- `T.let(x, 1)`, of which the `1` is no type expression
abbrev pub ONE : Tree
ONE = tree.Whole None (codes "1") (from_to 9 10)

abbrev pub ASSERTED : Tree
ASSERTED = tree.Post (tree.Constant (codes "T") (from_to 0 1))
    (suffix.Call dot.Plain (codes "let") (from_to 2 5)
    (Some (argument.Positional (tree.Name (codes "x") (from_to 6 7)) ∷ argument.Positional ONE ∷ []))
    None (from_to 1 11) ∷ []) (from_to 0 11)

-- the `1`
abbrev pub MalformedIsAPlace : Type 0
MalformedIsAPlace = IsPlaceIn ASSERTED (from_to 9 10)
