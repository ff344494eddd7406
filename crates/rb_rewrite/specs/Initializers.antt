-- Initializers: in a method `initialize` with a well-formed signature a direct statement `@x = p` of the outermost body, p a typed
-- parameter other than the block, reads as `@x = T.let(p, P)`.
use Rattle.std.specs.Prelude.{ℕ, Bool, true, false, ◌&&◌, not, List, [], ◌∷◌, map, codes, bytes_eq, if◌then◌else◌, Option, Some, None}
use Rattle.srb_terms.specs.declared.param_kind.ParamKind.{ParamKind}
use Rattle.srb_terms.specs.declared.param_kind.ParamKind.TheVariants as param
use Rattle.srb_terms.specs.declared.span.Span.{Span}
use Rattle.rb_tree.specs.Nodes as tree
use Rattle.rb_tree.specs.declared.syntax.Argument.{Argument}
use Rattle.rb_tree.specs.declared.syntax.Argument.TheVariants as argument
use Rattle.rb_tree.specs.declared.syntax.Dot.TheVariants as dot
use Rattle.rb_tree.specs.declared.syntax.Guarded.{Guarded}
use Rattle.rb_tree.specs.declared.syntax.Parameter.{Parameter}
use Rattle.rb_tree.specs.declared.syntax.Suffix.{Suffix}
use Rattle.rb_tree.specs.declared.syntax.Suffix.TheVariants as suffix
use Rattle.rb_tree.specs.declared.syntax.Tree.{Tree}
use Rattle.rb_tree.specs.declared.syntax.Node.{out-Node}
use Rattle.rb_tree.specs.declared.syntax.Node.TheOpen.{Node-F}
use Rattle.rb_rewrite.specs.Signatures.{Signature, well_formed}

-- ---- typed parameters

abbrev pub is_block : ParamKind → Bool
is_block param.Block = true
is_block _ = false

-- the type of a name after one more argument of `params`, which gives a type to the name of its label
abbrev pub type_with : List ℕ → Option Tree → Argument Tree → Option Tree
type_with name found (argument.Keyword label span value) = if bytes_eq label name then Some value else found
type_with name found _ = found

abbrev pub type_from : List ℕ → Option Tree → List (Argument Tree) → Option Tree
type_from name found [] = found
type_from name found (first ∷ rest) = type_from name (type_with name found first) rest

-- the type that `params` gives to a name
abbrev pub type_in : List ℕ → Option (List (Argument Tree)) → Option Tree
type_in name None = None
type_in name (Some arguments) = type_from name None arguments

-- the type of a name after one more parameter of the method: a block has none
abbrev pub type_without : {X : Type 0} → List ℕ → Option Tree → Parameter X → Option Tree
type_without name found p = if is_block p.kind && bytes_eq p.name name then None else found

abbrev pub without_blocks : {X : Type 0} → List ℕ → Option Tree → List (Parameter X) → Option Tree
without_blocks name found [] = found
without_blocks name found (p ∷ parameters) = without_blocks name (type_without name found p) parameters

-- the type of a parameter other than the block
abbrev pub type_of : {X : Type 0} → List (Parameter X) → Signature → List ℕ → Option Tree
type_of parameters s name = without_blocks name (type_in name s.params) parameters

-- ---- assignments

-- `T`
abbrev pub constant_t : Span → Tree
constant_t span = tree.Constant (codes "T") span

-- the value and the type, by their places
abbrev pub let_arguments : Tree → Tree → List (Argument Tree)
let_arguments value type = argument.Positional value ∷ argument.Positional type ∷ []

-- `.let(value, type)`
abbrev pub let_suffix : Tree → Tree → Span → Suffix Tree
let_suffix value type span = suffix.Call dot.Plain (codes "let") span (Some (let_arguments value type)) None span

-- `T.let(value, type)`, at this place
abbrev pub let_call : Tree → Tree → Span → Tree
let_call value type span = tree.Post (constant_t span) (let_suffix value type span ∷ []) span

abbrev pub is_instance_variable_at : {X Y : Type 0} → Node-F X Y → Bool
is_instance_variable_at (Node-F.InstanceVariable name span) = true
is_instance_variable_at _ = false

unfoldable pub is_instance_variable : Tree → Bool
is_instance_variable t = is_instance_variable_at (out-Node t.node)

abbrev pub asserted_by : Tree → Span → Option Tree → Tree
asserted_by value span None = value
asserted_by value span (Some type) = let_call value type span

abbrev pub asserted_at : {X Y : Type 0} → (List ℕ → Option Tree) → Tree → Node-F X Y → Tree
asserted_at types value (Node-F.Name name span) = asserted_by value span (types name)
asserted_at types value _ = value

-- a value that is a typed parameter, with its type by its name; any other value stays
unfoldable pub asserted : (List ℕ → Option Tree) → Tree → Tree
asserted types value = asserted_at types value (out-Node value.node)

abbrev pub assigned_at : {X : Type 0} → (List ℕ → Option Tree) → Tree → Node-F X Tree → Tree
assigned_at types t (Node-F.Assign target value span) =
    if is_instance_variable target then tree.Assign target (asserted types value) span else t
assigned_at types t _ = t

-- a direct statement of the outermost body; all but such an assignment stay
unfoldable pub assigned : (List ℕ → Option Tree) → Tree → Tree
assigned types t = assigned_at types t (out-Node t.node)

abbrev pub assigned_body_at : {X : Type 0} → (List ℕ → Option Tree) → Tree → Node-F X Tree → Tree
assigned_body_at types t (Node-F.Body statements span) = tree.Body (map (assigned types) statements) span
assigned_body_at types t _ = t

-- the outermost body
unfoldable pub assigned_body : (List ℕ → Option Tree) → Tree → Tree
assigned_body types t = assigned_body_at types t (out-Node t.node)

abbrev pub assigned_guarded : (List ℕ → Option Tree) → Guarded Tree → Guarded Tree
assigned_guarded types g = record {
  body = assigned_body types g.body;
  rescues = g.rescues;
  otherwise = g.otherwise;
  ensure = g.ensure;
}

-- ---- methods

-- the signature that the `sig` statement before a method is; None where there is none, or it is malformed
abbrev pub signature_before : {X : Type 0} → List (Parameter X) → Option Tree → Option Signature
signature_before parameters None = None
signature_before parameters (Some sig) = well_formed parameters sig

-- a method that isn't one of the class object is an initializer by its name
abbrev pub is_initializer : Bool → List ℕ → Bool
is_initializer own name = not own && bytes_eq name (codes "initialize")

abbrev pub with_types_at : {X : Type 0} → Tree → Signature → Node-F X Tree → Tree
with_types_at t s (Node-F.Def visibility own name name_span parameters guarded span) =
    tree.Def visibility own name name_span parameters (assigned_guarded (type_of parameters s) guarded) span
with_types_at t s _ = t

-- an initializer, with the assignments in it read by its signature
unfoldable pub with_types : Tree → Signature → Tree
with_types t s = with_types_at t s (out-Node t.node)

abbrev pub initialized_by : Tree → Option Signature → Tree
initialized_by t None = t
initialized_by t (Some s) = with_types t s

abbrev pub initialized_at : {X : Type 0} → Option Tree → Tree → Node-F X Tree → Tree
initialized_at sig t (Node-F.Def visibility own name name_span parameters guarded span) =
    if is_initializer own name then initialized_by t (signature_before parameters sig) else t
initialized_at sig t _ = t

-- a statement after this `sig` statement, if one stands directly before it: an initializer is read by its signature, and any other
-- statement stays
unfoldable pub initialized : Option Tree → Tree → Tree
initialized sig t = initialized_at sig t (out-Node t.node)
