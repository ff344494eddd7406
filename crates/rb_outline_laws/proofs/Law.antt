-- Trees have equal outlines exactly where they are equal without their places.
use Rattle.std.proofs.Common.{◌≡◌, ap, sym, subst, ◌∙◌}
use Rattle.rb_tree.specs.declared.syntax.Tree.{Tree}
use Rattle.rb_tree.specs.declared.syntax.Node.{Node}
use Rattle.rb_tree.specs.declared.syntax.Node.TheOpen.{Node-F}
use Rattle.rb_tree.specs.declared.syntax.Node.TheViews.{roll-Node, out-roll-Node}
use Rattle.rb_tree.specs.declared.syntax.Node.TheFolds.{map-Node, fold-Node, fold-roll-Node, fold_out-Tree, ind-Tree}
use Rattle.rb_outline.specs.Outlines.{kind_at, words_at, parts_at, outline_at, outline_of}
use Rattle.rb_outline.proofs.Steps.{outline_from}
use Rattle.rb_outline_laws.specs.Unplaced.{unplaced_node, unplaced, OutlinesAreTreesWithoutPlaces}
use Rattle.rb_outline_laws.proofs.Reading.{a_tree, made, tree_in, read, read-is}
use Rattle.rb_outline_laws.proofs.Parts.{IsKept, Kept, tree}
use Rattle.rb_outline_laws.proofs.Back.{node-read}
use Rattle.rb_outline_laws.proofs.Alike.{node-alike}

-- what a node is without places
unplaced_below : Node → Node
unplaced_below = fold-Node Node Tree (λ x. roll-Node (unplaced_node x)) (λ t. record { node = t.node })

unplaced-is : (x : Node-F Node Tree) → unplaced (made x) ≡ made (unplaced_node (map-Node Node Tree Node Tree unplaced_below unplaced x))
unfolding unplaced unplaced_below
unplaced-is x =
    fold_out-Tree Node Tree (λ x. roll-Node (unplaced_node x)) (λ t. record { node = t.node }) (made x)
    ∙ ap (λ n. record { node = n }) (fold-roll-Node Node Tree (λ x. roll-Node (unplaced_node x)) (λ t. record { node = t.node }) x)

outline-is : (x : Node-F Node Tree) → outline_of (made x) ≡ outline_at outline_of x
outline-is x = sym (outline_from (made x)) ∙ ap (λ z. outline_at outline_of z) (out-roll-Node x)

abbrev IsNodeKept : Node → Type 0
IsNodeKept n = IsKept (record { node = n })

abbrev KeptNode : Type 0
KeptNode = (n : Node) × IsNodeKept n

abbrev plain : Node-F KeptNode Kept → Node-F Node Tree
plain y = map-Node KeptNode Kept Node Tree (λ e. e.0) tree y

node-kept : (y : Node-F KeptNode Kept) → IsNodeKept (roll-Node (plain y))
node-kept y = (
  ap outline_of (unplaced-is (plain y))
      ∙ outline-is (unplaced_node (map-Node Node Tree Node Tree unplaced_below unplaced (plain y)))
      ∙ node-alike unplaced_below (λ e. e.0) y
      ∙ sym (outline-is (plain y)),
  words_at (plain y),
  ap read (outline-is (plain y))
      ∙ read-is (kind_at (plain y)) (words_at (plain y)) (parts_at outline_of (plain y))
      ∙ node-read unplaced_below (λ e. e.0) y
      ∙ ap (a_tree (words_at (plain y))) (sym (unplaced-is (plain y))),
)

kept : (t : Tree) → IsKept t
kept = ind-Tree IsNodeKept IsKept (λ x y is. subst (λ z. IsNodeKept (roll-Node z)) is (node-kept y)) (λ x y is. subst IsNodeKept (ap (λ z. z.node) is) y.node.1)

-- the tree without places is read from the outline
back : (t : Tree) → tree_in (read (outline_of t)) ≡ unplaced t
back t = ap tree_in (kept t).2

pub outlines-are-trees : OutlinesAreTreesWithoutPlaces
outlines-are-trees t u = (
  (λ e. sym (back t) ∙ ap (λ o. tree_in (read o)) e ∙ back u),
  (λ e. sym (kept t).0 ∙ ap outline_of e ∙ (kept u).0),
)
