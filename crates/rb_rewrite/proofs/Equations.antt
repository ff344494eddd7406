-- The equations of the rewriting, by the node of a tree.
use Rattle.std.proofs.Common.{◌≡◌, List, [], ◌∷◌, map, refl, ap, sym, ◌∙◌}
use Rattle.rb_tree.specs.Nodes as tree
use Rattle.rb_tree.specs.declared.syntax.Tree.{Tree}
use Rattle.rb_tree.specs.declared.syntax.Node.{Node, out-Node}
use Rattle.rb_tree.specs.declared.syntax.Node.TheOpen.{Node-F}
use Rattle.rb_tree.specs.declared.syntax.Node.TheViews.{roll-out-Node}
use Rattle.rb_tree.specs.declared.syntax.Node.TheFolds.{map-Node, para-Node, para-roll-Node, para-roll-Tree}
use Rattle.rb_rewrite.specs.Rewriting.{Row, empty_row, all_of, with_statement, with_statements, NodeMade, Made, made_at, made_tree, or_node, made, inner_of, body_of, inner_at, body_at, inner_by_node, body_by_node}

-- what the nodes of the fold become
made_node : Node → NodeMade
made_node = para-Node NodeMade Made (λ n. made_at n) (λ t. made_tree t)

node_is : (n : Node) → made_node n ≡ made_at (map-Node Node Tree (Node × NodeMade) (Tree × Made) (λ m. (m, made_node m)) (λ t. (t, made t)) (out-Node n))
unfolding made made_node
node_is n =
    ap made_node (sym (roll-out-Node n))
    ∙ para-roll-Node NodeMade Made (λ n. made_at n) (λ t. made_tree t) (out-Node n)

tree_is : (t : Tree) → made t ≡ record { inner = or_node t.node (made_node t.node).inner; body = or_node t.node (made_node t.node).body }
unfolding made made_node
tree_is t = para-roll-Tree NodeMade Made (λ n. made_at n) (λ t. made_tree t) (record { node = t.node })

statements_mapped : (r : Row) (statements : List Tree) →
    with_statements (λ (s : Tree × Made). s.0) (λ (s : Tree × Made). s.1.inner) r (map (λ t. (t, made t)) statements) ≡ with_statements (λ s. s) inner_of r statements
statements_mapped r [] = refl
statements_mapped r (s ∷ statements) = statements_mapped (with_statement r s (inner_of s)) statements

inner_same : (f : Node → NodeMade) (t : Tree) (x : Node-F Node Tree) →
    or_node t.node (made_at (map-Node Node Tree (Node × NodeMade) (Tree × Made) (λ m. (m, f m)) (λ t. (t, made t)) x)).inner ≡ inner_at t x
inner_same f t (Node-F.Class path superclass body span) = refl
inner_same f t (Node-F.Module path body span) = refl
inner_same f t x = refl

body_same : (f : Node → NodeMade) (t : Tree) (x : Node-F Node Tree) →
    or_node t.node (made_at (map-Node Node Tree (Node × NodeMade) (Tree × Made) (λ m. (m, f m)) (λ t. (t, made t)) x)).body ≡ body_at t x
body_same f t (Node-F.Body statements span) = ap (λ (r : Row). tree.Body (all_of r) span) (statements_mapped empty_row statements)
body_same f t x = refl

pub inner_is : (t : Tree) → inner_of t ≡ inner_by_node t
unfolding inner_by_node
inner_is t = ap (λ (m : Made). m.inner) (tree_is t)
    ∙ ap (λ (m : NodeMade). or_node t.node m.inner) (node_is t.node)
    ∙ inner_same made_node t (out-Node t.node)

pub body_is : (t : Tree) → body_of t ≡ body_by_node t
unfolding body_by_node
body_is t = ap (λ (m : Made). m.body) (tree_is t)
    ∙ ap (λ (m : NodeMade). or_node t.node m.body) (node_is t.node)
    ∙ body_same made_node t (out-Node t.node)
