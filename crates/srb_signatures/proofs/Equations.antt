-- What a tree adds goes by its node.
use Rattle.std.proofs.Common.{◌≡◌, Bool, List, [], ◌∷◌, Option, None, map, refl, ap, sym, ◌∙◌}
use Rattle.srb_terms.specs.declared.diag.Diag.{Diag}
use Rattle.rb_tree.specs.declared.syntax.Tree.{Tree}
use Rattle.rb_tree.specs.declared.syntax.Node.{Node, out-Node}
use Rattle.rb_tree.specs.declared.syntax.Node.TheOpen.{Node-F}
use Rattle.rb_tree.specs.declared.syntax.Node.TheViews.{roll-out-Node}
use Rattle.rb_tree.specs.declared.syntax.Node.TheFolds.{map-Node, para-Node, para-roll-Node, para-roll-Tree}
use Rattle.srb_signatures.specs.Errors.{with_followed, sig_if, inner_statements, statement_at, body_at, Added, added_at, added, statement_of, body_of, statement_by_node, body_by_node}

-- what the nodes of the fold add
added_node : Bool → Node → Added
added_node needed = para-Node Added Added (λ n. added_at needed n) (λ t. t.node.1)

node_is : (needed : Bool) (n : Node) →
    added_node needed n ≡ added_at needed (map-Node Node Tree (Node × Added) (Tree × Added) (λ m. (m, added_node needed m)) (λ t. (t, added needed t)) (out-Node n))
unfolding added added_node
node_is needed n =
    ap (added_node needed) (sym (roll-out-Node n))
    ∙ para-roll-Node Added Added (λ n. added_at needed n) (λ t. t.node.1) (out-Node n)

tree_is : (needed : Bool) (t : Tree) → added needed t ≡ added_node needed t.node
unfolding added added_node
tree_is needed t = para-roll-Tree Added Added (λ n. added_at needed n) (λ t. t.node.1) (record { node = t.node })

module _ (needed : Bool) where
  statements_mapped : (sig : Option Tree) (statements : List Tree) (errors : List Diag) →
      inner_statements needed (λ (s : Tree × Added). s.0) (λ (s : Tree × Added). s.1.statement) (λ (s : Tree × Added). s.1.body) sig
      (map (λ t. (t, added needed t)) statements) errors
      ≡ inner_statements needed (λ s. s) (statement_of needed) (body_of needed) sig statements errors
  statements_mapped sig [] errors = refl
  statements_mapped sig (s ∷ statements) errors =
      statements_mapped (sig_if s) statements (statement_of needed s (with_followed needed sig s errors))

  statement_same : (f : Node → Added) (x : Node-F Node Tree) (errors : List Diag) →
      (added_at needed (map-Node Node Tree (Node × Added) (Tree × Added) (λ m. (m, f m)) (λ t. (t, added needed t)) x)).statement errors
      ≡ statement_at needed (λ x. x) (statement_of needed) (body_of needed) x errors
  statement_same f (Node-F.Class path superclass body span) errors = refl
  statement_same f (Node-F.Module path body span) errors = refl
  statement_same f x errors = refl

  body_same : (f : Node → Added) (x : Node-F Node Tree) (errors : List Diag) →
      (added_at needed (map-Node Node Tree (Node × Added) (Tree × Added) (λ m. (m, f m)) (λ t. (t, added needed t)) x)).body errors
      ≡ body_at needed (λ x. x) (statement_of needed) (body_of needed) x errors
  body_same f (Node-F.Body statements span) errors = statements_mapped None statements errors
  body_same f x errors = refl

  pub statement_is : (t : Tree) (errors : List Diag) → statement_of needed t errors ≡ statement_by_node needed t errors
  unfolding statement_by_node
  statement_is t errors = ap (λ (a : Added). a.statement errors) (tree_is needed t)
      ∙ ap (λ (a : Added). a.statement errors) (node_is needed t.node)
      ∙ statement_same (added_node needed) (out-Node t.node) errors

  pub body_is : (t : Tree) (errors : List Diag) → body_of needed t errors ≡ body_by_node needed t errors
  unfolding body_by_node
  body_is t errors = ap (λ (a : Added). a.body errors) (tree_is needed t)
      ∙ ap (λ (a : Added). a.body errors) (node_is needed t.node)
      ∙ body_same (added_node needed) (out-Node t.node) errors
