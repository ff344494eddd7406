-- What a signature says of a method: the types of its parameters and of its result.
use Rattle.std.specs.Prelude.{◌≡◌, ℕ, Bool, true, false, not, ◌==◌, List, [], ◌∷◌, length, map, bytes_eq, if◌then◌else◌, Option, Some, None}
use Rattle.std.specs.Option.{unwrap_or}
use Rattle.indexmap.specs.IndexMap.{insert_entry}
use Rattle.srb_terms.specs.Worlds.{value_of}
use Rattle.srb_terms.specs.declared.fact.ParamShape.{ParamShape}
use Rattle.srb_terms.specs.declared.outline.Outline.{Outline}
use Rattle.srb_terms.specs.declared.ty.Param.{Param}
use Rattle.srb_terms.specs.declared.ty.Ty.{Ty}
use Rattle.srb_terms.specs.declared.ty.Ty.TheVariants as ty
use Rattle.srb_sig.specs.declared.reading.Notes.{Notes}
use Rattle.srb_sig.specs.declared.reading.Read.{Read}
use Rattle.srb_sig.specs.declared.signature.SigEnd.{SigEnd}
use Rattle.srb_sig.specs.declared.signature.SigEnd.TheVariants as end
use Rattle.srb_sig.specs.declared.signature.SigRead.{SigRead}
use Rattle.srb_sig.specs.declared.typing.Typed as lent
use Rattle.srb_sig.specs.declared.wrong.WrongPart.{WrongPart}
use Rattle.srb_sig.specs.Chains.{Said, params_of, well_formed}
use Rattle.srb_sig.specs.Forms.{words_of, parts_of}
use Rattle.srb_sig.specs.Named.{entries_of}
use Rattle.srb_sig.specs.Types.{none_yet, reading}
use Rattle.srb_sig.specs.Views.{View}

-- The types of parameters by their names, and the parts of all type expressions that were read, in the order of the text: a part has the
-- next number after those of the expressions before.
pub record Types : Type 0 where
  pub named : List (List ℕ × Ty)
  pub result : Ty
  pub notes : Notes

-- an expression with a wrong part is untyped as a whole
abbrev pub whole_by : ℕ → Read → Read
whole_by wrong r = record { ty = if length r.notes.wrong == wrong then r.ty else ty.Untyped; notes = r.notes }

-- with the type of a keyword argument
abbrev pub with_type : List ℕ → Read → Types → Types
with_type name r types = record { named = insert_entry bytes_eq types.named name r.ty; result = types.result; notes = r.notes }

-- with that of the result
abbrev pub with_result_read : Read → Types → Types
with_result_read r types = record { named = types.named; result = r.ty; notes = r.notes }

-- no expression yet
abbrev pub no_types : Types
no_types = record { named = []; result = ty.Untyped; notes = none_yet }

module _ (v : View) (scope : List (List ℕ)) where
  -- an expression after those that were read
  abbrev pub whole : Outline → Notes → Read
  whole t n = whole_by (length n.wrong) (reading v scope t n)

  abbrev pub with_value : List ℕ → Outline → Types → Types
  with_value name value types = with_type name (whole value types.notes) types

  -- the values of a keyword argument: it has one
  abbrev pub with_values : List ℕ → List Outline → Types → Types
  with_values name [] types = types
  with_values name (value ∷ rest) types = with_values name rest (with_value name value types)

  abbrev pub with_keywords : List Outline → Types → Types
  with_keywords [] types = types
  with_keywords (t ∷ rest) types = with_keywords rest (with_values (words_of t) (parts_of t) types)

  -- the result; that of a `void` method is untyped
  abbrev pub with_result : Option Outline → Types → Types
  with_result None types = types
  with_result (Some t) types = with_result_read (whole t types.notes) types

  -- all type expressions, in the order of the text
  abbrev pub types_in : Bool → Option Outline → List Outline → Types
  types_in true returned keywords = with_keywords keywords (with_result returned no_types)
  types_in false returned keywords = with_result returned (with_keywords keywords no_types)

  unfoldable pub types_of : Said → Types
  types_of s = types_in s.returns_first s.returned (params_of s.params)

-- ---- the signature

-- the type of a name
abbrev pub type_named : List (List ℕ × Ty) → List ℕ → Ty
type_named named name = unwrap_or (value_of name named) ty.Untyped

-- the parameters of the method in their order, with their types
abbrev pub param_of : List (List ℕ × Ty) → ParamShape → Param
param_of named p = record { name = p.name; kind = p.kind; ty = type_named named p.name }

abbrev pub all_typed : List (List ℕ × Ty) → List ParamShape → List Param
all_typed named shapes = map (param_of named) shapes

abbrev pub part_of : WrongPart → ℕ
part_of p = p.part

-- what lent types are
abbrev pub seen_types : lent.Typed → Types
seen_types t = record { named = entries_of t.named; result = t.result; notes = t.notes }

-- what a signature says of a method with these parameters, in a body with this scope
abbrev pub sig_read : View → List (List ℕ) → List ParamShape → Said → SigRead
sig_read v scope shapes s = record {
  params = all_typed (types_of v scope s).named shapes;
  result = (types_of v scope s).result;
  checked = not s.is_abstract;
  bad = map part_of (types_of v scope s).notes.wrong;
}

-- the signature is well-formed, and this is what it says
pub record IsSigRead (v : View) (scope : List (List ℕ)) (shapes : List ParamShape) (sig : Outline) (r : SigRead) : Type 0 where
  pub said : Said
  pub forms : well_formed shapes sig ≡ Some said
  pub read : r ≡ sig_read v scope shapes said

-- why nothing is said: the signature is malformed; of memory nothing is said
abbrev pub IsSigEnd : List ParamShape → Outline → SigEnd → Type 0
IsSigEnd shapes sig end.Malformed = well_formed shapes sig ≡ None
IsSigEnd shapes sig end.NoMemory = Unit {0}
