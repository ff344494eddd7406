-- A place that a node carries, and a file whose errors stand at those of its tree.
use Rattle.std.specs.Prelude.{List, [], ◌∷◌, codes}
use Rattle.srb_terms.specs.declared.diag.Diag.{Diag}
use Rattle.srb_terms.specs.declared.fact.Fact.{Fact}
use Rattle.rb_tree.specs.Nodes as tree
use Rattle.rb_tree.specs.declared.syntax.Binary.TheVariants as binary
use Rattle.rb_tree.specs.declared.syntax.Tree.{Tree}
use Rattle.rb_grammar.specs.Examples.{SUM_TREE, digit, from_to}
use Rattle.rb_grammar.specs.Places.{Each}
use Rattle.rb_places_laws.specs.TreePlaces.{IsPlaceIn}
use Rattle.srb_check.specs.Checks.{errors_of}
use Rattle.srb_check_laws.specs.Placed.{IsPlaceOfNode}

-- the `+` of `1 + 2 * 3`
abbrev pub OperatorIsAPlace : Type 0
OperatorIsAPlace = IsPlaceOfNode SUM_TREE (from_to 2 3)

-- the tree of `1+2`
abbrev pub SHORT_TREE : Tree
SHORT_TREE = tree.Body (tree.Binary binary.Plus (from_to 1 2) (digit (codes "1") 0) (digit (codes "2") 2) (from_to 0 3) ∷ []) (from_to 0 3)

-- whatever the facts are, each error of that file stands at one of its places
abbrev pub ShortErrsInItsTree : Type 0
ShortErrsInItsTree = (facts : List Fact) → Each (λ (error : Diag). IsPlaceIn SHORT_TREE error.span) (errors_of facts (codes "1+2"))
