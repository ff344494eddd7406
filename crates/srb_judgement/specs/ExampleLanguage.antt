-- The small language of the examples as a whole, and its type expressions.
use Rattle.std.specs.Prelude.{ℕ, Bool, true, false, List, [], ◌∷◌, codes, bytes_eq, if◌then◌else◌, Option, Some, None}
use Rattle.srb_terms.specs.declared.fact.ParamShape.{ParamShape}
use Rattle.srb_terms.specs.NameSets.{has_name}
use Rattle.rb_tree.specs.declared.syntax.Argument.{Argument}
use Rattle.rb_tree.specs.declared.syntax.Argument.TheVariants as argument
use Rattle.rb_tree.specs.declared.syntax.Block.{Block}
use Rattle.rb_tree.specs.declared.syntax.Suffix.{Suffix}
use Rattle.rb_tree.specs.declared.syntax.Suffix.TheVariants as suffix
use Rattle.rb_tree.specs.declared.syntax.Node.TheOpen.{Node-F}
use Rattle.rb_views.specs.Calls.{arguments_of}
use Rattle.srb_judgement.specs.ExampleCalls.{call}
use Rattle.srb_judgement.specs.ExampleTypes.{Ty, Untyped, NEVER, of, any, meet, without, is_sub, is_never, show, array, hash, instance, class_object}
use Rattle.srb_judgement.specs.Languages.{Language, Meaning, ClassNamed, ModuleNamed, ValueOf, Unresolved, Typed, Signature}

-- what an expression says: the type that it is, and what the calls of a signature's chain said so far
pub record Text : Type 0 where
  pub ty : Ty
  pub params : List (Typed Ty)
  pub result : Option Ty
  -- whether it is a chain of a signature
  pub says : Bool

abbrev pub is_type : Ty → Text
is_type t = record { ty = t; params = []; result = None; says = false }

abbrev pub is_chain : List (Typed Ty) → Option Ty → Text
is_chain params result = record { ty = Untyped; params = params; result = result; says = true }

abbrev pub nothing : Text
nothing = is_type Untyped

-- ---- type expressions: a class, `T.nilable(X)`, `T.any(X, Y)` and `T::Array[X]`

abbrev pub any_of : Ty → List (Argument Text) → Ty
any_of so_far (argument.Positional x ∷ rest) = any_of (any so_far x.ty) rest
any_of so_far _ = so_far

abbrev pub type_call : List ℕ → List (Argument Text) → Text
type_call name arguments =
    if bytes_eq name (codes "nilable") then is_type (any (of (codes "NilClass")) (any_of NEVER arguments))
    else (if bytes_eq name (codes "any") then is_type (any_of NEVER arguments) else nothing)

-- ---- signatures: `params(x: X).returns(Y)`, `params(x: X).void`, and their like

abbrev pub params_of : List (Argument Text) → List (Typed Ty)
params_of (argument.Keyword name span x ∷ rest) = record { name = name; ty = x.ty } ∷ params_of rest
params_of _ = []

abbrev pub first_type : List (Argument Text) → Option Ty
first_type (argument.Positional x ∷ rest) = Some x.ty
first_type _ = None

abbrev pub chain_call : Text → List ℕ → List (Argument Text) → Text
chain_call t name arguments =
    if bytes_eq name (codes "params") then is_chain (params_of arguments) t.result
    else (if bytes_eq name (codes "returns") then is_chain t.params (first_type arguments)
    else (if bytes_eq name (codes "void") then is_chain t.params None
    else (if bytes_eq name (codes "abstract") then is_chain t.params None else nothing)))

abbrev pub chain_more : Bool → Text → List ℕ → List (Argument Text) → Text
chain_more true t name arguments = chain_call t name arguments
chain_more false t name arguments = type_call name arguments

abbrev pub text_row : Text → List (Suffix Text) → Text
text_row t [] = t
text_row t (suffix.Call how name name_span arguments b span ∷ rest) = text_row (chain_more t.says t name (arguments_of arguments)) rest
text_row t (suffix.Constant name name_span span ∷ rest) = text_row (is_type (instance name)) rest
text_row t (suffix.Index arguments span ∷ rest) = text_row (is_type (array (any_of NEVER arguments))) rest

-- what a body says is what its one statement says
abbrev pub single : List Text → Text
single (t ∷ []) = t
single _ = nothing

abbrev pub block_text : Option (Block Text) → Text
block_text None = nothing
block_text (Some b) = b.body

abbrev pub call_text : List ℕ → List (Argument Text) → Option (Block Text) → Text
call_text name arguments b = if bytes_eq name (codes "sig") then block_text b else chain_call nothing name arguments

abbrev pub text_at : Node-F Text Text → Text
text_at (Node-F.Constant name span) = is_type (instance name)
text_at (Node-F.Post receiver suffixes span) = text_row receiver suffixes
text_at (Node-F.Call name place arguments b span) = call_text name (arguments_of arguments) b
text_at (Node-F.Name name span) = chain_call nothing name []
text_at (Node-F.Body statements span) = single statements
text_at _ = nothing

abbrev pub signature_if : Bool → Text → Option (Signature Ty)
signature_if true t = Some (record { params = t.params; result = t.result })
signature_if false t = None

abbrev pub signature : List (List ℕ) → Text → List ParamShape → Option (Signature Ty)
signature scope t shapes = signature_if t.says t

-- ---- names

-- the class object is the module `T` where `T` is no form
abbrev pub CLASSES : List (List ℕ)
CLASSES =
    codes "Integer" ∷ codes "String" ∷ codes "A" ∷ codes "B" ∷ codes "Array" ∷ codes "StandardError" ∷ codes "ArgumentError" ∷ codes "TypeError" ∷ []

abbrev pub meaning_of : List (List ℕ) → List ℕ → Meaning Ty
meaning_of scope name =
    if has_name name CLASSES then ClassNamed name
    else (if bytes_eq name (codes "M") then ModuleNamed name
    else (if bytes_eq name (codes "T") then ModuleNamed name
    else (if bytes_eq name (codes "V") then ValueOf (of (codes "String"))
    else (if bytes_eq name (codes "W") then (if has_name (codes "A") scope then ValueOf (of (codes "Integer")) else Unresolved)
    else Unresolved))))

abbrev pub meaning : List (List ℕ) → List (List ℕ) → Meaning Ty
meaning scope (name ∷ []) = meaning_of scope name
meaning scope ([] ∷ name ∷ []) = meaning_of [] name
meaning scope _ = Unresolved

abbrev pub is_exception : List ℕ → Bool
is_exception name = has_name name (codes "StandardError" ∷ codes "ArgumentError" ∷ codes "TypeError" ∷ [])

-- instances of A have an integer `@x`, and the class object of A has a string `@x`
abbrev pub variable_of_a : Bool → List ℕ → Option Ty
variable_of_a true name = if bytes_eq name (codes "x") then Some (of (codes "String")) else None
variable_of_a false name = if bytes_eq name (codes "x") then Some (of (codes "Integer")) else None

abbrev pub instance_variable : List ℕ → Bool → List ℕ → Option Ty
instance_variable owner meta name = if bytes_eq owner (codes "A") then variable_of_a meta name else None

-- ---- the whole

abbrev pub SMALL : Language Ty Text
SMALL = record {
  is_sub = is_sub;
  any = any;
  meet = meet;
  without = without;
  untyped = Untyped;
  never = NEVER;
  is_never = is_never;
  instance = instance;
  class_object = class_object;
  array = array;
  hash = hash;
  show = show;
  meaning = meaning;
  is_exception = is_exception;
  instance_variable = instance_variable;
  text_at = text_at;
  reads = λ scope x. x.ty;
  signature = signature;
  call = call;
}
