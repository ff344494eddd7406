-- The facts of a rewritten program, in the order of the text. Each definition adds the facts of a part to those so far.
use Rattle.std.specs.Prelude.{ℕ, Bool, true, false, List, [], ◌∷◌, if◌then◌else◌, Option, Some, None}
use Rattle.srb_terms.specs.declared.fact.Fact.{Fact}
use Rattle.srb_terms.specs.declared.span.Span.{Span}
use Rattle.rb_tree.specs.declared.syntax.Argument.{Argument}
use Rattle.rb_tree.specs.declared.syntax.Argument.TheVariants as argument
use Rattle.rb_tree.specs.declared.syntax.Arm.{Arm}
use Rattle.rb_tree.specs.declared.syntax.Block.{Block}
use Rattle.rb_tree.specs.declared.syntax.Guarded.{Guarded}
use Rattle.rb_tree.specs.declared.syntax.Pair.{Pair}
use Rattle.rb_tree.specs.declared.syntax.Pair.TheVariants as pair
use Rattle.rb_tree.specs.declared.syntax.Parameter.{Parameter}
use Rattle.rb_tree.specs.declared.syntax.Piece.{Piece}
use Rattle.rb_tree.specs.declared.syntax.Piece.TheVariants as piece
use Rattle.rb_tree.specs.declared.syntax.Rescue.{Rescue}
use Rattle.rb_tree.specs.declared.syntax.Suffix.{Suffix}
use Rattle.rb_tree.specs.declared.syntax.Suffix.TheVariants as suffix
use Rattle.rb_tree.specs.declared.syntax.Tree.{Tree, Tree-F, para-Tree}
use Rattle.rb_tree.specs.declared.syntax.When.{When}
use Rattle.rb_tree.specs.declared.syntax.Node.{Node, out-Node}
use Rattle.rb_tree.specs.declared.syntax.Node.TheOpen.{Node-F}
use Rattle.rb_rewrite.specs.Declaring.{is_sig}
use Rattle.rb_rewrite.specs.Rewriting.{attrs_of}
use Rattle.srb_declarations.specs.Declarations.{declared_name}
use Rattle.srb_namer.specs.Declarations.{Place, place, inside, after_sig, class_place, method_place, with_class, with_module, mixed, with_assigned, with_method}

-- what a part adds to the facts so far, by its place
abbrev pub Adds : Type 0
Adds = Place → List Fact → List Fact

-- ---- rows of parts

-- each in order
abbrev pub each : {A : Type 0} → (A → Adds) → List A → Adds
each f [] p facts = facts
each f (first ∷ rest) p facts = each f rest p (f first p facts)

-- what may be missing
abbrev pub if_there : {A : Type 0} → (A → Adds) → Option A → Adds
if_there f None p facts = facts
if_there f (Some x) p facts = f x p facts

-- ---- the parts of nodes, where `f` is what a tree in them adds

module _ {X : Type 0} (f : X → Adds) where
  abbrev pub by_argument : Argument X → Adds
  by_argument (argument.Positional value) p facts = f value p facts
  by_argument (argument.Keyword name span value) p facts = f value p facts
  by_argument (argument.Block span value) p facts = f value p facts

  abbrev pub by_block : Block X → Adds
  by_block b p facts = f b.body p facts

  -- the arguments, and then the block
  abbrev pub by_call : Option (List (Argument X)) → Option (Block X) → Adds
  by_call arguments block p facts = if_there by_block block p (if_there (each by_argument) arguments p facts)

  abbrev pub by_suffix : Suffix X → Adds
  by_suffix (suffix.Call how name name_span arguments block span) p facts = by_call arguments block p facts
  by_suffix (suffix.Constant name name_span span) p facts = facts
  by_suffix (suffix.Index arguments span) p facts = each by_argument arguments p facts

  abbrev pub by_piece : Piece X → Adds
  by_piece (piece.Words words span) p facts = facts
  by_piece (piece.Code body span) p facts = f body p facts

  abbrev pub by_pair : Pair X → Adds
  by_pair (pair.Arrow key value) p facts = f value p (f key p facts)
  by_pair (pair.Label name span value) p facts = f value p facts

  abbrev pub by_arm : Arm X → Adds
  by_arm a p facts = f a.body p (f a.condition p facts)

  abbrev pub by_when : When X → Adds
  by_when w p facts = f w.body p (each f w.patterns p facts)

  abbrev pub by_rescue : Rescue X → Adds
  by_rescue r p facts = f r.body p (each f r.patterns p facts)

  -- the body, the `rescue` clauses, and what stands after `else` and `ensure`
  abbrev pub by_guarded : Guarded X → Adds
  by_guarded g p facts = if_there f g.ensure p (if_there f g.otherwise p (each by_rescue g.rescues p (f g.body p facts)))

  abbrev pub by_parameter : Parameter X → Adds
  by_parameter q p facts = if_there f q.default p facts

  -- what is in a method, perhaps one of the class object
  abbrev pub by_method : Bool → List (Parameter X) → Guarded X → Adds
  by_method own parameters g p facts = by_guarded g (method_place p own) (each by_parameter parameters (method_place p own) facts)

-- a statement that is a `sig` statement stands directly before the next one
abbrev pub sig_if : Tree → Option Tree
sig_if t = if is_sig t then Some t else None

-- ---- nodes: `it` is the tree of a part, `f` what it adds, and `body` what it adds as the body of a class or module

module _ {X : Type 0} (it : X → Tree) (f body : X → Adds) where
  -- a class or module declares its name, and then what is in its body; a method declares itself, and then what is in it; an assignment
  -- declares what it assigns to. All else adds what its parts add
  abbrev pub by_node : {N : Type 0} → Node-F N X → Adds
  by_node (Node-F.Body statements span) p facts = each f statements (inside p) facts
  by_node (Node-F.Modified statement modifier condition span) p facts = f condition (inside p) (f statement (inside p) facts)
  by_node (Node-F.Jump jump value span) p facts = if_there f value (inside p) facts
  by_node (Node-F.Assign target value span) p facts = f value (inside p) (f target (inside p) (with_assigned p (it target) (it value) facts))
  by_node (Node-F.OperatorAssign target operator operator_span value span) p facts = f value (inside p) (f target (inside p) facts)
  by_node (Node-F.Command callee arguments block span) p facts =
      if_there (by_block f) block (inside p) (each (by_argument f) arguments (inside p) (f callee (inside p) facts))
  by_node (Node-F.Conditional condition positive negative span) p facts = f negative (inside p) (f positive (inside p) (f condition (inside p) facts))
  by_node (Node-F.Binary operator operator_span left right span) p facts = f right (inside p) (f left (inside p) facts)
  by_node (Node-F.Unary operator operand span) p facts = f operand (inside p) facts
  by_node (Node-F.Post receiver suffixes span) p facts = each (by_suffix f) suffixes (inside p) (f receiver (inside p) facts)
  by_node (Node-F.Text pieces span) p facts = each (by_piece f) pieces (inside p) facts
  by_node (Node-F.Call name name_span arguments block span) p facts = by_call f arguments block (inside p) facts
  by_node (Node-F.Yield arguments span) p facts = if_there (each (by_argument f)) arguments (inside p) facts
  by_node (Node-F.Super arguments span) p facts = if_there (each (by_argument f)) arguments (inside p) facts
  by_node (Node-F.Array elements span) p facts = each f elements (inside p) facts
  by_node (Node-F.Hash pairs span) p facts = each (by_pair f) pairs (inside p) facts
  by_node (Node-F.Parens body span) p facts = f body (inside p) facts
  by_node (Node-F.If test condition body arms otherwise span) p facts =
      if_there f otherwise (inside p) (each (by_arm f) arms (inside p) (f body (inside p) (f condition (inside p) facts)))
  by_node (Node-F.While test condition body span) p facts = f body (inside p) (f condition (inside p) facts)
  by_node (Node-F.Case subject arms otherwise span) p facts =
      if_there f otherwise (inside p) (each (by_when f) arms (inside p) (if_there f subject (inside p) facts))
  by_node (Node-F.Begin guarded span) p facts = by_guarded f guarded (inside p) facts
  by_node (Node-F.Class path superclass inner span) p facts =
      body inner (class_place p (declared_name p.scope path)) (with_class p (declared_name p.scope path) superclass facts)
  by_node (Node-F.Module path inner span) p facts =
      body inner (class_place p (declared_name p.scope path)) (with_module (declared_name p.scope path) facts)
  by_node (Node-F.Def visibility own name name_span parameters guarded span) p facts =
      by_guarded f guarded (method_place p own)
      (each (by_parameter f) parameters (method_place p own) (with_method p own name parameters facts))
  by_node _ p facts = facts

  -- the statements of a class or module body: each after the `sig` statement directly before it, if one stands there; first the mixins
  -- that it gives
  abbrev pub by_statements : Option Tree → List X → Adds
  by_statements sig [] p facts = facts
  by_statements sig (s ∷ rest) p facts = by_statements (sig_if (it s)) rest p (f s (after_sig p sig) (mixed p (it s) facts))

  -- a node as the body of a class or module
  abbrev pub by_body : {N : Type 0} → Node-F N X → Adds
  by_body (Node-F.Body statements span) p facts = by_statements None statements p facts
  by_body n p facts = by_node n p facts

-- ---- trees

-- what a tree adds: as a statement or an expression, and as the body of a class or module
pub record Added : Type 0 where
  pub plain : Adds
  pub body : Adds

abbrev pub added_at : {N : Type 0} → Node-F N (Tree × Added) → Added
added_at n = record {
  plain = by_node (λ x. x.0) (λ x. x.1.plain) (λ x. x.1.body) n;
  body = by_body (λ x. x.0) (λ x. x.1.plain) (λ x. x.1.body) n;
}

unfoldable pub added : Tree → Added
added = para-Tree Added Added (λ n. added_at n) (λ t. t.node.1)

abbrev pub plain_of : Tree → Adds
plain_of t = (added t).plain

abbrev pub body_of : Tree → Adds
body_of t = (added t).body

-- the same by the node of a tree
unfoldable pub plain_by_node : Tree → Adds
plain_by_node t p facts = by_node (λ x. x) plain_of body_of (out-Node t.node) p facts

unfoldable pub body_by_node : Tree → Adds
body_by_node t p facts = by_body (λ x. x) plain_of body_of (out-Node t.node) p facts

-- the program's level: its instance variables are those of instances
abbrev pub program_place : Place
program_place = place [] false None

-- the facts of a rewritten program
unfoldable pub facts_of : Tree → List Fact
facts_of t = plain_of t program_place []

-- the summary of a program: the facts of its tree after the rewriting
abbrev pub summ_of : Tree → List Fact
summ_of t = facts_of (attrs_of t)
