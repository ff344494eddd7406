-- What the judgement asks of types, names, type expressions and calls. It is a parameter of all that follows: `T` are the types, in normal
-- form, and `X` is how type expressions are kept.
use Rattle.std.specs.Prelude.{ℕ, Bool, List, Option}
use Rattle.srb_terms.specs.declared.diag.Diag.{Diag}
use Rattle.srb_terms.specs.declared.fact.ParamShape.{ParamShape}
use Rattle.srb_terms.specs.declared.span.Span.{Span}
use Rattle.rb_tree.specs.declared.syntax.Node.TheOpen.{Node-F}

-- what a path of constants stands for
pub data Meaning (T : Type 0) : Type 0 where
  -- a class or a module, by its full name
  ClassNamed : List ℕ → Meaning T
  ModuleNamed : List ℕ → Meaning T
  -- a value constant, by its type
  ValueOf : T → Meaning T
  -- nothing is found
  Unresolved : Meaning T

-- ---- calls

-- an argument by its place: its type and its place
pub record Given (T : Type 0) : Type 0 where
  pub ty : T
  pub span : Span

-- an argument by its name; its place is its value
pub record Named (T : Type 0) : Type 0 where
  pub name : List ℕ
  pub ty : T
  pub span : Span

-- a block: the number of its names, and B, the `T.any` of its last type and its `next` types
pub record GivenBlock (T : Type 0) : Type 0 where
  pub names : ℕ
  pub ty : T

-- a call: the receiver's type, the called name and its place, and what is given
pub record Sent (T : Type 0) : Type 0 where
  pub receiver : T
  pub name : List ℕ
  pub name_span : Span
  pub positional : List (Given T)
  pub keys : List (Named T)
  pub block : Option (GivenBlock T)

-- what a call gives: its result, the types of the block's names, which don't depend on B, and its errors
pub record Answer (T : Type 0) : Type 0 where
  pub result : T
  pub block : List T
  pub errors : List Diag

-- ---- methods

-- a parameter with the type that a signature gives it
pub record Typed (T : Type 0) : Type 0 where
  pub name : List ℕ
  pub ty : T

-- a well-formed signature: the types of the parameters, and the type against which results are checked; None where it is `void` or
-- `abstract`
pub record Signature (T : Type 0) : Type 0 where
  pub params : List (Typed T)
  pub result : Option T

-- ---- the whole

pub record Language (T : Type 0) (X : Type 0) : Type 0 where
  -- whether the first type is a subtype of the second
  pub is_sub : T → T → Bool
  -- `T.any` of two types
  pub any : T → T → T
  -- `T.all` of two types, but `T.untyped` meets u in u
  pub meet : T → T → T
  -- the first type without the parts that are subtypes of the second; `T.untyped` stays
  pub without : T → T → T
  pub untyped : T
  pub never : T
  -- whether a type has no part: it is `T.noreturn`
  pub is_never : T → Bool
  -- the instances of a class or module, by its full name; `Array` and `Hash` stand for those of `T.untyped`
  pub instance : List ℕ → T
  -- `T.class_of` a class or module
  pub class_object : List ℕ → T
  pub array : T → T
  pub hash : T → T → T
  -- the text of a type
  pub show : T → List ℕ
  -- what a path stands for in the bodies with these full names, the innermost first. One that begins with `::` has an empty first name
  pub meaning : List (List ℕ) → List (List ℕ) → Meaning T
  -- whether `Exception` stands in the linearization of the class
  pub is_exception : List ℕ → Bool
  -- the declared type of an instance variable of this class or module, or of its class object
  pub instance_variable : List ℕ → Bool → List ℕ → Option T
  -- the type expression that a node is, by those in it
  pub text_at : Node-F X X → X
  -- the type of a type expression in the bodies with these full names; `T.untyped` where a part is wrong
  pub reads : List (List ℕ) → X → T
  -- the signature of a method with these parameters that a `sig` statement is; None where it is malformed
  pub signature : List (List ℕ) → X → List ParamShape → Option (Signature T)
  -- the call of a method
  pub call : Sent T → Answer T
