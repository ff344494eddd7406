-- The types of value constants.
use Rattle.std.specs.Prelude.{ℕ, Bool, true, false, List, [], ◌∷◌, Option, None, Some, bytes_eq, if◌then◌else◌}
use Rattle.std.specs.Option.{option_or}
use Rattle.srb_terms.specs.declared.fact.Fact.{Fact}
use Rattle.srb_terms.specs.declared.fact.Fact.TheVariants.{Value}
use Rattle.srb_terms.specs.declared.fact.Given.{Given}
use Rattle.srb_terms.specs.declared.fact.Given.TheVariants.{Literal, Typed, Unknown}
use Rattle.srb_terms.specs.declared.fact.Kind.{Kind}
use Rattle.srb_terms.specs.declared.fact.Kind.TheVariants as kind
use Rattle.srb_terms.specs.declared.outline.TyText.{TyText}
use Rattle.srb_terms.specs.declared.ty.Ty.{Ty}
use Rattle.srb_terms.specs.declared.ty.Ty.TheVariants as ty
use Rattle.srb_rules.specs.Kinds.{kind_of}

abbrev pub is_value : Option Kind → Bool
is_value (Some kind.Value) = true
is_value _ = false

-- how a type that is written out is read, by the scope in which it stands
abbrev pub Reads : Type 0
Reads = List (List ℕ) → TyText → Ty

-- The type that an assignment gives: a literal has that of its class.
abbrev pub given_type : Reads → List (List ℕ) → Given → Ty
given_type reads scope (Literal class) = ty.Class class
given_type reads scope (Typed text) = reads scope text
given_type reads scope Unknown = ty.Untyped

-- the type that a fact gives to the name
abbrev pub type_in : Reads → List ℕ → Fact → Option Ty
type_in reads name (Value of scope given) = if bytes_eq of name then Some (given_type reads scope given) else None
type_in reads name _ = None

-- the type that the last assignment to the name gives
abbrev pub last_type : Reads → List ℕ → List Fact → Option Ty
last_type reads name [] = None
last_type reads name (f ∷ fs) = option_or (last_type reads name fs) (type_in reads name f)

-- The type of a value constant is that of its last assignment. An assignment to the name of a class or module declares nothing.
unfoldable pub value_type : Reads → List Fact → List ℕ → Option Ty
value_type reads fs name = if is_value (kind_of fs name) then last_type reads name fs else None
