-- What single declarations declare: classes and modules, mixins, constants, methods and instance variables. Full names and paths are
-- those of `srb_declarations`.
use Rattle.std.specs.Prelude.{ℕ, Bool, true, false, ◌&&◌, List, [], ◌∷◌, ◌++◌, map, codes, bytes_eq, if◌then◌else◌, Option, Some, None, option_map}
use Rattle.std.specs.Option.{option_copied}
use Rattle.srb_terms.specs.declared.fact.Fact.{Fact}
use Rattle.srb_terms.specs.declared.fact.Fact.TheVariants as fact
use Rattle.srb_terms.specs.declared.fact.Given.{Given}
use Rattle.srb_terms.specs.declared.fact.Given.TheVariants as given
use Rattle.srb_terms.specs.declared.fact.How.{How}
use Rattle.srb_terms.specs.declared.fact.How.TheVariants as how
use Rattle.srb_terms.specs.declared.fact.Kind.TheVariants as kind
use Rattle.srb_terms.specs.declared.fact.ParamShape.{ParamShape}
use Rattle.srb_terms.specs.declared.outline.SigText.{SigText}
use Rattle.srb_terms.specs.declared.outline.TyText.{TyText}
use Rattle.rb_tree.specs.declared.syntax.Argument.{Argument}
use Rattle.rb_tree.specs.declared.syntax.Argument.TheVariants as argument
use Rattle.rb_tree.specs.declared.syntax.Dot.{Dot}
use Rattle.rb_tree.specs.declared.syntax.Dot.TheVariants as dot
use Rattle.rb_tree.specs.declared.syntax.Parameter.{Parameter}
use Rattle.rb_tree.specs.declared.syntax.Reference.{Reference}
use Rattle.rb_tree.specs.declared.syntax.Suffix.{Suffix}
use Rattle.rb_tree.specs.declared.syntax.Tree.{Tree}
use Rattle.rb_tree.specs.declared.syntax.Node.{Node, out-Node}
use Rattle.rb_tree.specs.declared.syntax.Node.TheOpen.{Node-F}
use Rattle.rb_outline.specs.Outlines.{outline_of}
use Rattle.rb_views.specs.Calls.{Call, Receiver, call_of}
use Rattle.rb_views.specs.Paths.{Path, path_of}
use Rattle.rb_rewrite.specs.Declaring.{is_missing}
use Rattle.srb_rules.specs.FullNames.{full_name}
use Rattle.srb_declarations.specs.Declarations.{innermost, mixin_named, written}
use Rattle.srb_namer.specs.declared.place.Place as lent

-- ---- places

-- where a declaration stands
pub record Place : Type 0 where
  -- the full names of the enclosing class and module bodies, the innermost first
  pub scope : List (List ℕ)
  -- whether instance variables are those of the class object
  pub meta : Bool
  -- the `sig` statement directly before
  pub sig : Option Tree

-- what a lent place is
abbrev pub seen_place : lent.Place → Place
seen_place p = record { scope = p.scope.now; meta = p.meta; sig = option_copied p.sig }

abbrev pub place : List (List ℕ) → Bool → Option Tree → Place
place scope meta sig = record { scope = scope; meta = meta; sig = sig }

-- what stands in a declaration or an expression there: no `sig` statement is before it
abbrev pub inside : Place → Place
inside p = place p.scope p.meta None

abbrev pub after_sig : Place → Option Tree → Place
after_sig p sig = place p.scope p.meta sig

-- the body of a class or module of this name
abbrev pub class_place : Place → List ℕ → Place
class_place p name = place (name ∷ p.scope) true None

-- a method, perhaps one of the class object
abbrev pub method_place : Place → Bool → Place
method_place p own = place p.scope own None

-- ---- owners and paths

-- what has its body there: the innermost class or module, `Object` at the program's level
abbrev pub owner : List (List ℕ) → List ℕ
owner [] = codes "Object"
owner (name ∷ scope) = name

abbrev pub whole_path : List (Suffix Tree) → Path → Option (List (List ℕ))
whole_path [] p = Some (written p.top p.names)
whole_path _ p = None

abbrev pub path_if : Option Path → Option (List (List ℕ))
path_if None = None
path_if (Some p) = whole_path p.rest p

-- the path of constants that a tree is; None where it is none
abbrev pub path_text : Tree → Option (List (List ℕ))
path_text t = path_if (path_of t)

-- ---- classes and modules

-- the superclass, where one is written; it is looked up from the scope around the class
abbrev pub with_superclass : Place → List ℕ → Option Reference → List Fact → List Fact
with_superclass p name None facts = facts
with_superclass p name (Some r) facts = facts ++ fact.Parent name p.scope (written r.top r.path) how.Super ∷ []

abbrev pub with_class : Place → List ℕ → Option Reference → List Fact → List Fact
with_class p name superclass facts = with_superclass p name superclass (facts ++ fact.Scope name kind.Class ∷ [])

abbrev pub with_module : List ℕ → List Fact → List Fact
with_module name facts = facts ++ fact.Scope name kind.Module ∷ []

-- ---- mixins

abbrev pub with_path : Place → How → Option (List (List ℕ)) → List Fact → List Fact
with_path p way None facts = facts
with_path p way (Some path) facts = facts ++ fact.Parent (owner p.scope) p.scope path way ∷ []

-- an argument that is a path of constants gives one fact, and any other none
abbrev pub with_mixin : Place → How → Argument Tree → List Fact → List Fact
with_mixin p way (argument.Positional value) facts = with_path p way (path_text value) facts
with_mixin p way _ facts = facts

-- the arguments count from last to first
abbrev pub with_mixins : Place → How → List (Argument Tree) → List Fact → List Fact
with_mixins p way [] facts = facts
with_mixins p way (first ∷ rest) facts = with_mixin p way first (with_mixins p way rest facts)

abbrev pub mixed_by : Place → Option How → List (Argument Tree) → List Fact → List Fact
mixed_by p None arguments facts = facts
mixed_by p (Some way) arguments facts = with_mixins p way arguments facts

abbrev pub mixed_call : Place → Option Call → List Fact → List Fact
mixed_call p None facts = facts
mixed_call p (Some c) facts =
    if is_missing c.receiver && is_missing c.block then mixed_by p (mixin_named c.name) c.arguments facts else facts

-- the mixins that a statement of a class or module body gives: it is a call of `include` or `extend` on `self`, without a block
abbrev pub mixed : Place → Tree → List Fact → List Fact
mixed p t facts = mixed_call p (call_of t) facts

-- ---- assertions

-- the text of a type expression
abbrev pub type_text : Tree → TyText
type_text t = record { tree = outline_of t }

abbrev pub is_t_at : {X Y : Type 0} → Node-F X Y → Bool
is_t_at (Node-F.Constant name span) = bytes_eq name (codes "T")
is_t_at _ = false

-- whether a tree is the constant `T`
unfoldable pub is_t : Tree → Bool
is_t t = is_t_at (out-Node t.node)

abbrev pub is_t_alone : Tree → List (Suffix Tree) → Bool
is_t_alone operand [] = is_t operand
is_t_alone operand _ = false

abbrev pub is_plain_dot : Dot → Bool
is_plain_dot dot.Plain = true
is_plain_dot dot.Safe = false

-- whether a call is on `T` itself, by `.`
abbrev pub is_on_t : Option Receiver → Bool
is_on_t None = false
is_on_t (Some r) = is_plain_dot r.dot && is_t_alone r.prefix.operand r.prefix.suffixes

-- the second of two arguments by their places
abbrev pub second_of : List (Argument Tree) → Option Tree
second_of (argument.Positional value ∷ argument.Positional type ∷ []) = Some type
second_of _ = None

abbrev pub asserted_call : Option Call → Option Tree
asserted_call None = None
asserted_call (Some c) =
    if is_on_t c.receiver && bytes_eq c.name (codes "let") && is_missing c.block then second_of c.arguments else None

-- the X of `T.let(e, X)`; None for any other tree
abbrev pub asserted_type : Tree → Option Tree
asserted_type t = asserted_call (call_of t)

-- ---- constants

abbrev pub literal_at : {X Y : Type 0} → Node-F X Y → Option (List ℕ)
literal_at (Node-F.Whole sign words span) = Some (codes "Integer")
literal_at (Node-F.Float sign words span) = Some (codes "Float")
literal_at (Node-F.Text pieces span) = Some (codes "String")
literal_at (Node-F.Symbol words span) = Some (codes "Symbol")
literal_at (Node-F.Nil span) = Some (codes "NilClass")
literal_at (Node-F.True span) = Some (codes "TrueClass")
literal_at (Node-F.False span) = Some (codes "FalseClass")
literal_at _ = None

-- the class of the literal that a tree is
unfoldable pub literal_class : Tree → Option (List ℕ)
literal_class t = literal_at (out-Node t.node)

abbrev pub given_by_literal : Option (List ℕ) → Given
given_by_literal None = given.Unknown
given_by_literal (Some class) = given.Literal class

abbrev pub given_by : Tree → Option Tree → Given
given_by value None = given_by_literal (literal_class value)
given_by value (Some type) = given.Typed (type_text type)

-- what a value tells of the type of the constant that it is given to: the type of its `T.let`, or the class of a literal
abbrev pub given_of : Tree → Given
given_of value = given_by value (asserted_type value)

abbrev pub with_constant : Place → List ℕ → Tree → List Fact → List Fact
with_constant p name value facts = facts ++ fact.Value (full_name (innermost p.scope) name) p.scope (given_of value) ∷ []

-- ---- instance variables

abbrev pub with_variable_by : Place → List ℕ → Option Tree → List Fact → List Fact
with_variable_by p name None facts = facts
with_variable_by p name (Some type) facts = facts ++ fact.Ivar (owner p.scope) p.scope p.meta name (type_text type) ∷ []

-- `@x = T.let(e, X)` declares `@x` of the owner; any other value declares nothing
abbrev pub with_variable : Place → List ℕ → Tree → List Fact → List Fact
with_variable p name value facts = with_variable_by p name (asserted_type value) facts

abbrev pub with_assigned_at : {X Y : Type 0} → Place → Tree → List Fact → Node-F X Y → List Fact
with_assigned_at p value facts (Node-F.Constant name span) = with_constant p name value facts
with_assigned_at p value facts (Node-F.InstanceVariable name span) = with_variable p name value facts
with_assigned_at p value facts _ = facts

-- what an assignment to this target declares
unfoldable pub with_assigned : Place → Tree → Tree → List Fact → List Fact
with_assigned p target value facts = with_assigned_at p value facts (out-Node target.node)

-- ---- methods

abbrev pub shape_of : {X : Type 0} → Parameter X → ParamShape
shape_of p = record { name = p.name; kind = p.kind }

-- the text of a signature
abbrev pub sig_text : Tree → SigText
sig_text t = record { tree = outline_of t }

-- a method of the owner, with the `sig` statement directly before it
abbrev pub with_method : {X : Type 0} → Place → Bool → List ℕ → List (Parameter X) → List Fact → List Fact
with_method p own name parameters facts =
    facts ++ fact.Method (owner p.scope) p.scope own name (map shape_of parameters) (option_map sig_text p.sig) ∷ []
