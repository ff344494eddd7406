-- The law that a tree goes by its node.
use Rattle.std.proofs.Common.{◌≡◌, ap, ◌∙◌, sym}
use Rattle.rb_tree.specs.declared.syntax.Tree.{Tree}
use Rattle.rb_tree.specs.declared.syntax.Node.{Node, out-Node}
use Rattle.rb_tree.specs.declared.syntax.Node.TheFolds.{map-Node, fold-Node, fold_out-Node, fold_out-Tree}
use Rattle.srb_judgement.specs.Judgements.{part_at, part_of}
use Rattle.srb_judgement.specs.Languages.{Language}
use Rattle.srb_judgement.specs.Laws.{GoesByNode, tree_with}
use Rattle.srb_judgement.specs.Parts.{Part}

module _ {T X : Type 0} (L : Language T X) where
  abbrev known_node : Node → Part T X
  known_node = fold-Node (Part T X) (Part T X) (λ n. part_at L n) (λ t. t.node)

  node-known : (n : Node) → part_of L (tree_with n) ≡ known_node n
  unfolding part_of
  node-known n = fold_out-Tree (Part T X) (Part T X) (λ n. part_at L n) (λ t. t.node) (tree_with n)

  nodes-known : known_node ≡ (λ n. part_of L (tree_with n))
  nodes-known = λ i n. sym (node-known n) i

  by_node : (t : Tree) → part_of L t ≡ part_at L (map-Node Node Tree (Part T X) (Part T X) known_node (part_of L) (out-Node t.node))
  unfolding part_of
  by_node t =
      fold_out-Tree (Part T X) (Part T X) (λ n. part_at L n) (λ t. t.node) t
      ∙ fold_out-Node (Part T X) (Part T X) (λ n. part_at L n) (λ t. t.node) t.node

pub goes_by_node : {T X : Type 0} → GoesByNode T X
goes_by_node {T} {X} L t =
    by_node L t
    ∙ ap (λ f. part_at L (map-Node Node Tree (Part T X) (Part T X) f (part_of L) (out-Node t.node))) (nodes-known L)
