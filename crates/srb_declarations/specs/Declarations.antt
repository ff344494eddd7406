-- What a program declares, with the places at which errors of its declarations stand. A scope is the list of the full names of the
-- enclosing class and module bodies, the innermost first; that of the program's level is empty.
use Rattle.std.specs.Prelude.{ℕ, Bool, true, false, List, [], ◌∷◌, ◌++◌, map, codes, bytes_eq, if◌then◌else◌, Option, Some, None}
use Rattle.srb_terms.specs.Worlds.{joined}
use Rattle.srb_terms.specs.declared.fact.How.{How}
use Rattle.srb_terms.specs.declared.fact.How.TheVariants as how
use Rattle.srb_terms.specs.declared.fact.Kind.{Kind}
use Rattle.srb_terms.specs.declared.fact.Kind.TheVariants as kind
use Rattle.srb_terms.specs.declared.span.Span.{Span}
use Rattle.srb_rules.specs.FullNames.{full_name}
use Rattle.rb_tree.specs.Trees.{span_of}
use Rattle.rb_tree.specs.declared.syntax.Argument.{Argument}
use Rattle.rb_tree.specs.declared.syntax.Argument.TheVariants as argument
use Rattle.rb_tree.specs.declared.syntax.Block.{Block}
use Rattle.rb_tree.specs.declared.syntax.PlacedName.{PlacedName}
use Rattle.rb_tree.specs.declared.syntax.Reference.{Reference}
use Rattle.rb_tree.specs.declared.syntax.Suffix.{Suffix}
use Rattle.rb_tree.specs.declared.syntax.Tree.{Tree, para-Tree}
use Rattle.rb_tree.specs.declared.syntax.Node.{out-Node}
use Rattle.rb_tree.specs.declared.syntax.Node.TheOpen.{Node-F}
use Rattle.rb_views.specs.Calls.{Call, Receiver, call_of}
use Rattle.rb_views.specs.Paths.{Path, path_of}
use Rattle.rb_views.specs.Places.{names_span}
use Rattle.srb_declarations.specs.declared.declaration.Declaration.{Declaration}
use Rattle.srb_declarations.specs.declared.declaration.Declaration.TheVariants as declaration

-- what a part adds to the declarations so far, by the scope around it
abbrev pub Adds : Type 0
Adds = List (List ℕ) → List Declaration → List Declaration

-- ---- names

-- the class or module whose body is around; None at the program's level
abbrev pub innermost : List (List ℕ) → Option (List ℕ)
innermost [] = None
innermost (name ∷ scope) = Some name

-- names joined by `::`, after what stands so far
abbrev pub joined_after : List ℕ → List PlacedName → List ℕ
joined_after so_far [] = so_far
joined_after so_far (n ∷ names) = joined_after (joined so_far n.name) names

-- the names of a path joined by `::`
abbrev pub path_name : List PlacedName → List ℕ
path_name [] = []
path_name (n ∷ names) = joined_after n.name names

-- the full name of what is declared by a path in a scope
abbrev pub declared_name : List (List ℕ) → List PlacedName → List ℕ
declared_name scope path = full_name (innermost scope) (path_name path)

abbrev pub placed_name : PlacedName → List ℕ
placed_name n = n.name

-- a path as a list of names; one that begins with `::` has an empty first name
abbrev pub written : Bool → List PlacedName → List (List ℕ)
written true names = [] ∷ map placed_name names
written false names = map placed_name names

-- ---- classes, modules and constants

-- a class or module stands at its whole path
abbrev pub with_body : List ℕ → Kind → List PlacedName → List Declaration → List Declaration
with_body name k path ds = ds ++ declaration.Body name k (names_span path) ∷ []

-- a superclass, where one is written, is looked up from the scope around its class
abbrev pub with_superclass : List ℕ → Option Reference → Adds
with_superclass name None scope ds = ds
with_superclass name (Some r) scope ds = ds ++ declaration.Superclass name scope (written r.top r.path) r.span ∷ []

abbrev pub with_constant_at : {X Y : Type 0} → Node-F X Y → Adds
with_constant_at (Node-F.Constant name span) scope ds = ds ++ declaration.Constant (full_name (innermost scope) name) span ∷ []
with_constant_at _ scope ds = ds

-- a target that is a constant is declared by the assignment, at its own place
unfoldable pub with_constant : Tree → Adds
with_constant target scope ds = with_constant_at (out-Node target.node) scope ds

-- ---- mixins

-- the way in which a call of this name refers to its arguments
abbrev pub mixin_named : List ℕ → Option How
mixin_named name =
    if bytes_eq name (codes "include") then Some how.Include
    else (if bytes_eq name (codes "extend") then Some how.Extend else None)

-- from the start of a mark to the end of a value
abbrev pub up_to_value : Span → Tree → Span
up_to_value mark value = record { start = mark.start; end = (span_of value).end }

-- the whole place of an argument, with its label or its `&`
abbrev pub argument_span : Argument Tree → Span
argument_span (argument.Positional value) = span_of value
argument_span (argument.Keyword name span value) = up_to_value span value
argument_span (argument.Block span value) = up_to_value span value

abbrev pub with_rest : List ℕ → How → Span → Path → List (Suffix Tree) → Adds
with_rest name way place p [] scope ds = ds ++ declaration.Mixin name scope (written p.top p.names) way p.span ∷ []
with_rest name way place p _ scope ds = ds ++ declaration.OtherMixin place ∷ []

-- a path counts where nothing follows it
abbrev pub with_path : List ℕ → How → Span → Option Path → Adds
with_path name way place None scope ds = ds ++ declaration.OtherMixin place ∷ []
with_path name way place (Some p) scope ds = with_rest name way place p p.rest scope ds

-- an argument by its place may be a path; a keyword argument and one by `&` are none
abbrev pub with_mixin : List ℕ → How → Argument Tree → Adds
with_mixin name way (argument.Positional value) scope ds = with_path name way (span_of value) (path_of value) scope ds
with_mixin name way other scope ds = ds ++ declaration.OtherMixin (argument_span other) ∷ []

-- one for each argument, in their order
abbrev pub with_mixins : List ℕ → How → List (Argument Tree) → Adds
with_mixins name way [] scope ds = ds
with_mixins name way (first ∷ rest) scope ds = with_mixins name way rest scope (with_mixin name way first scope ds)

-- a call of `include` or `extend` that has no receiver and no block
abbrev pub with_parts : List ℕ → Option Receiver → Option (Block Tree) → Option How → List (Argument Tree) → Adds
with_parts name None None (Some way) arguments scope ds = with_mixins name way arguments scope ds
with_parts name _ _ _ arguments scope ds = ds

abbrev pub with_call : List ℕ → Option Call → Adds
with_call name None scope ds = ds
with_call name (Some c) scope ds = with_parts name c.receiver c.block (mixin_named c.name) c.arguments scope ds

-- the mixins that a statement of the body of this class or module gives
abbrev pub mixed : List ℕ → Tree → Adds
mixed name statement scope ds = with_call name (call_of statement) scope ds

-- ---- nodes: `it` is the tree of a part, `f` what it adds as a statement, and `body` what it adds as the body of a class or module of
-- this full name

module _ {X : Type 0} (it : X → Tree) (f : X → Adds) (body : X → List ℕ → Adds) where
  -- a class or module declares itself, then its superclass, and then what is in its body, whose scope has its full name in front; an
  -- assignment declares a constant; a statement with a modifier declares what it does without; all else declares nothing
  abbrev pub statement_at : {N : Type 0} → Node-F N X → Adds
  statement_at (Node-F.Modified statement modifier condition span) scope ds = f statement scope ds
  statement_at (Node-F.Assign target value span) scope ds = with_constant (it target) scope ds
  statement_at (Node-F.Class path superclass inner span) scope ds =
      body inner (declared_name scope path) (declared_name scope path ∷ scope)
      (with_superclass (declared_name scope path) superclass scope (with_body (declared_name scope path) kind.Class path ds))
  statement_at (Node-F.Module path inner span) scope ds =
      body inner (declared_name scope path) (declared_name scope path ∷ scope) (with_body (declared_name scope path) kind.Module path ds)
  statement_at _ scope ds = ds

  -- the statements of the body of this class or module: each gives its mixins and what it declares
  abbrev pub inner_statements : List ℕ → List X → Adds
  inner_statements name [] scope ds = ds
  inner_statements name (s ∷ rest) scope ds = inner_statements name rest scope (f s scope (mixed name (it s) scope ds))

  abbrev pub body_at : {N : Type 0} → Node-F N X → List ℕ → Adds
  body_at (Node-F.Body statements span) name scope ds = inner_statements name statements scope ds
  body_at _ name scope ds = ds

-- ---- trees

-- what a tree adds: as a statement, and as the body of a class or module of this full name
pub record Added : Type 0 where
  pub statement : Adds
  pub body : List ℕ → Adds

abbrev pub added_at : {N : Type 0} → Node-F N (Tree × Added) → Added
added_at n = record {
  statement = statement_at (λ x. x.0) (λ x. x.1.statement) (λ x. x.1.body) n;
  body = body_at (λ x. x.0) (λ x. x.1.statement) (λ x. x.1.body) n;
}

unfoldable pub added : Tree → Added
added = para-Tree Added Added (λ n. added_at n) (λ t. t.node.1)

abbrev pub statement_of : Tree → Adds
statement_of t = (added t).statement

abbrev pub body_of : Tree → List ℕ → Adds
body_of t = (added t).body

-- the same by the node of a tree
unfoldable pub statement_by_node : Tree → Adds
statement_by_node t scope ds = statement_at (λ x. x) statement_of body_of (out-Node t.node) scope ds

unfoldable pub body_by_node : Tree → List ℕ → Adds
body_by_node t name scope ds = body_at (λ x. x) statement_of body_of (out-Node t.node) name scope ds

-- the statements of the program's level, each: `include` and `extend` are calls there
abbrev pub program_statements : List Tree → List Declaration → List Declaration
program_statements [] ds = ds
program_statements (s ∷ rest) ds = program_statements rest (statement_of s [] ds)

abbrev pub program_at : {X : Type 0} → Node-F X Tree → List Declaration
program_at (Node-F.Body statements span) = program_statements statements []
program_at _ = []

-- what a program declares, in the order of the text
unfoldable pub declarations_of : Tree → List Declaration
declarations_of t = program_at (out-Node t.node)
