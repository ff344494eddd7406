-- What is known of a tree goes by its node.
use Rattle.std.proofs.Common.{◌≡◌, ◌∙◌}
use Rattle.rb_tree.specs.declared.syntax.Tree.{Tree}
use Rattle.rb_tree.specs.declared.syntax.Node.{Node}
use Rattle.rb_tree.specs.declared.syntax.Node.TheOpen.{Node-F}
use Rattle.rb_tree.specs.declared.syntax.Node.TheFolds.{map-Node, fold-Node, fold-roll-Node, fold_out-Tree}
use Rattle.srb_judgement.specs.Judgements.{part_at, part_of}
use Rattle.srb_judgement.specs.Languages.{Language}
use Rattle.srb_judgement.specs.Parts.{Part}
use Rattle.srb_judgement.specs.ExampleLanguage.{Text}
use Rattle.srb_judgement.specs.ExampleTypes.{Ty}
use Rattle.srb_judgement.specs.ExampleTrees.{tree_of}

module _ {T X : Type 0} (L : Language T X) where
  -- what is known of a node
  abbrev pub node_part : Node → Part T X
  node_part = fold-Node (Part T X) (Part T X) (λ n. part_at L n) (λ t. t.node)

  pub tree-part : (r : Node-F Node Tree) → part_of L (tree_of r) ≡ part_at L (map-Node Node Tree (Part T X) (Part T X) node_part (part_of L) r)
  unfolding part_of
  tree-part r =
      fold_out-Tree (Part T X) (Part T X) (λ n. part_at L n) (λ t. t.node) (tree_of r)
      ∙ fold-roll-Node (Part T X) (Part T X) (λ n. part_at L n) (λ t. t.node) r

-- what is known of a tree in the examples
abbrev pub KNOWN : Type 0
KNOWN = Part Ty Text
