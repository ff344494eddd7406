-- What a tree adds goes by its node.
use Rattle.std.proofs.Common.{◌≡◌, ℕ, List, [], ◌∷◌, map, refl, ap, sym, ◌∙◌}
use Rattle.rb_tree.specs.declared.syntax.Tree.{Tree}
use Rattle.rb_tree.specs.declared.syntax.Node.{Node, out-Node}
use Rattle.rb_tree.specs.declared.syntax.Node.TheOpen.{Node-F}
use Rattle.rb_tree.specs.declared.syntax.Node.TheViews.{roll-out-Node}
use Rattle.rb_tree.specs.declared.syntax.Node.TheFolds.{map-Node, para-Node, para-roll-Node, para-roll-Tree}
use Rattle.srb_declarations.specs.declared.declaration.Declaration.{Declaration}
use Rattle.srb_declarations.specs.Declarations.{mixed, inner_statements, statement_at, body_at, Added, added_at, added, statement_of, body_of, statement_by_node, body_by_node}

-- what the nodes of the fold add
added_node : Node → Added
added_node = para-Node Added Added (λ n. added_at n) (λ t. t.node.1)

node_is : (n : Node) → added_node n ≡ added_at (map-Node Node Tree (Node × Added) (Tree × Added) (λ m. (m, added_node m)) (λ t. (t, added t)) (out-Node n))
unfolding added added_node
node_is n =
    ap added_node (sym (roll-out-Node n))
    ∙ para-roll-Node Added Added (λ n. added_at n) (λ t. t.node.1) (out-Node n)

tree_is : (t : Tree) → added t ≡ added_node t.node
unfolding added added_node
tree_is t = para-roll-Tree Added Added (λ n. added_at n) (λ t. t.node.1) (record { node = t.node })

statements_mapped : (name : List ℕ) (statements : List Tree) (scope : List (List ℕ)) (ds : List Declaration) →
    inner_statements (λ (s : Tree × Added). s.0) (λ (s : Tree × Added). s.1.statement) (λ (s : Tree × Added). s.1.body) name (map (λ t. (t, added t)) statements) scope ds
    ≡ inner_statements (λ s. s) statement_of body_of name statements scope ds
statements_mapped name [] scope ds = refl
statements_mapped name (s ∷ statements) scope ds = statements_mapped name statements scope (statement_of s scope (mixed name s scope ds))

statement_same : (f : Node → Added) (x : Node-F Node Tree) (scope : List (List ℕ)) (ds : List Declaration) →
    (added_at (map-Node Node Tree (Node × Added) (Tree × Added) (λ m. (m, f m)) (λ t. (t, added t)) x)).statement scope ds
    ≡ statement_at (λ x. x) statement_of body_of x scope ds
statement_same f (Node-F.Modified statement modifier condition span) scope ds = refl
statement_same f (Node-F.Assign target value span) scope ds = refl
statement_same f (Node-F.Class path superclass body span) scope ds = refl
statement_same f (Node-F.Module path body span) scope ds = refl
statement_same f x scope ds = refl

body_same : (f : Node → Added) (x : Node-F Node Tree) (name : List ℕ) (scope : List (List ℕ)) (ds : List Declaration) →
    (added_at (map-Node Node Tree (Node × Added) (Tree × Added) (λ m. (m, f m)) (λ t. (t, added t)) x)).body name scope ds
    ≡ body_at (λ x. x) statement_of body_of x name scope ds
body_same f (Node-F.Body statements span) name scope ds = statements_mapped name statements scope ds
body_same f x name scope ds = refl

pub statement_is : (t : Tree) (scope : List (List ℕ)) (ds : List Declaration) → statement_of t scope ds ≡ statement_by_node t scope ds
unfolding statement_by_node
statement_is t scope ds = ap (λ (a : Added). a.statement scope ds) (tree_is t)
    ∙ ap (λ (a : Added). a.statement scope ds) (node_is t.node)
    ∙ statement_same added_node (out-Node t.node) scope ds

pub body_is : (t : Tree) (name : List ℕ) (scope : List (List ℕ)) (ds : List Declaration) → body_of t name scope ds ≡ body_by_node t name scope ds
unfolding body_by_node
body_is t name scope ds = ap (λ (a : Added). a.body name scope ds) (tree_is t)
    ∙ ap (λ (a : Added). a.body name scope ds) (node_is t.node)
    ∙ body_same added_node (out-Node t.node) name scope ds
