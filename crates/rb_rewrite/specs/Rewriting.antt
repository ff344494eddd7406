-- The rewriting of a program: attributes and initializers in the bodies of its classes and modules.
use Rattle.std.specs.Prelude.{Bool, true, false, not, ◌&&◌, List, [], ◌∷◌, ◌++◌, map, if◌then◌else◌, Option, Some, None}
use Rattle.rb_tree.specs.Nodes as tree
use Rattle.rb_tree.specs.declared.syntax.Tree.{Tree, Tree-F, para-Tree}
use Rattle.rb_tree.specs.declared.syntax.Node.TheVariants as node
use Rattle.rb_tree.specs.declared.syntax.Node.{Node, out-Node}
use Rattle.rb_tree.specs.declared.syntax.Node.TheOpen.{Node-F}
use Rattle.rb_rewrite.specs.Attributes.{with_sig, with_attributes}
use Rattle.rb_rewrite.specs.Declaring.{AttributeCall, attribute_of, is_missing, is_sig}
use Rattle.rb_rewrite.specs.Initializers.{initialized, is_initializer}

-- ---- the statements of a class or module body

-- the `sig` statement directly before the next statement, which doesn't stand among the others yet, and the statements so far
pub record Row : Type 0 where
  pub sig : Option Tree
  pub so_far : List Tree

abbrev pub row : Option Tree → List Tree → Row
row sig so_far = record { sig = sig; so_far = so_far }

abbrev pub empty_row : Row
empty_row = row None []

-- the statements with the `sig` statement
abbrev pub all_of : Row → List Tree
all_of r = with_sig r.so_far r.sig

-- a statement that is no attribute: a `sig` statement waits for what follows, and any other stands after the `sig` statement before it
abbrev pub with_other : Row → Tree → Tree → Row
with_other r written inner =
    if is_sig written
    then row (Some written) (all_of r)
    else row None (all_of r ++ initialized r.sig inner ∷ [])

-- an attribute statement is replaced by its methods
abbrev pub with_statement_by : Row → Tree → Tree → Option AttributeCall → Row
with_statement_by r written inner None = with_other r written inner
with_statement_by r written inner (Some a) = row None (with_attributes a.kind r.sig a.arguments r.so_far)

-- one more statement: as it is written, and with the classes and modules in it rewritten
abbrev pub with_statement : Row → Tree → Tree → Row
with_statement r written inner = with_statement_by r written inner (attribute_of written)

-- more statements
abbrev pub with_statements : {X : Type 0} → (X → Tree) → (X → Tree) → Row → List X → Row
with_statements written inner r [] = r
with_statements written inner r (first ∷ rest) = with_statements written inner (with_statement r (written first) (inner first)) rest

-- the rewritten statements of a class or module body
abbrev pub rewritten : {X : Type 0} → (X → Tree) → (X → Tree) → List X → List Tree
rewritten written inner statements = all_of (with_statements written inner empty_row statements)

-- ---- trees

-- what a node becomes as a statement, and as the body of a class or module; None where it stays
pub record NodeMade : Type 0 where
  pub inner : Option Node
  pub body : Option Node

-- the same of a tree
pub record Made : Type 0 where
  pub inner : Tree
  pub body : Tree

abbrev pub unchanged : NodeMade
unchanged = record { inner = None; body = None }

-- a class or module has its body rewritten; a body has its statements rewritten
abbrev pub made_at : {X : Type 0} → Node-F X (Tree × Made) → NodeMade
made_at (Node-F.Class path superclass body span) = record { inner = Some (node.Class path superclass body.1.body span); body = None }
made_at (Node-F.Module path body span) = record { inner = Some (node.Module path body.1.body span); body = None }
made_at (Node-F.Body statements span) =
    record { inner = None; body = Some (node.Body (rewritten (λ s. s.0) (λ s. s.1.inner) statements) span) }
made_at _ = unchanged

abbrev pub or_node : Node → Option Node → Tree
or_node n None = record { node = n }
or_node n (Some m) = record { node = m }

abbrev pub made_tree : {X : Type 0} → Tree-F (Node × NodeMade) X → Made
made_tree t = record { inner = or_node t.node.0 t.node.1.inner; body = or_node t.node.0 t.node.1.body }

unfoldable pub made : Tree → Made
made = para-Tree NodeMade Made (λ n. made_at n) (λ t. made_tree t)

-- a statement with the classes and modules in it rewritten
abbrev pub inner_of : Tree → Tree
inner_of t = (made t).inner

-- the body of a class or module, rewritten
abbrev pub body_of : Tree → Tree
body_of t = (made t).body

abbrev pub attrs_at : {X : Type 0} → Tree → Node-F X Tree → Tree
attrs_at t (Node-F.Body statements span) = tree.Body (map inner_of statements) span
attrs_at t _ = t

-- a program, rewritten: its own statements are no declarations, but classes and modules among them are rewritten
unfoldable pub attrs_of : Tree → Tree
attrs_of t = attrs_at t (out-Node t.node)

-- ---- the equations of these, by the node

abbrev pub inner_at : {X : Type 0} → Tree → Node-F X Tree → Tree
inner_at t (Node-F.Class path superclass body span) = tree.Class path superclass (body_of body) span
inner_at t (Node-F.Module path body span) = tree.Module path (body_of body) span
inner_at t _ = t

abbrev pub body_at : {X : Type 0} → Tree → Node-F X Tree → Tree
body_at t (Node-F.Body statements span) = tree.Body (rewritten (λ s. s) inner_of statements) span
body_at t _ = t

unfoldable pub inner_by_node : Tree → Tree
inner_by_node t = inner_at t (out-Node t.node)

unfoldable pub body_by_node : Tree → Tree
body_by_node t = body_at t (out-Node t.node)

-- ---- what stays

abbrev pub stays_at : {X : Type 0} → Node-F X Tree → Bool
stays_at (Node-F.Class path superclass body span) = false
stays_at (Node-F.Module path body span) = false
stays_at (Node-F.Def visibility own name name_span parameters guarded span) = not (is_initializer own name)
stays_at _ = true

-- whether a tree is no class, no module and no initializer
unfoldable pub stays_by_node : Tree → Bool
stays_by_node t = stays_at (out-Node t.node)

-- whether a statement of a class or module body stays: it is no attribute statement either
abbrev pub statement_stays : Tree → Bool
statement_stays t = is_missing (attribute_of t) && stays_by_node t
