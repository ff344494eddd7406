-- What the judgement asks of types, names, type expressions and calls, as a project answers it. Types are in normal form, and type
-- expressions are kept as trees without places.
use Rattle.std.specs.Prelude.{ℕ, Bool, true, false, List, [], ◌∷◌, map, codes, Option, Some, None}
use Rattle.std.specs.Option.{option_map, option_or, unwrap_or}
use Rattle.srb_terms.specs.NameSets.{has_name}
use Rattle.srb_terms.specs.declared.fact.Kind.{Kind}
use Rattle.srb_terms.specs.declared.fact.Kind.TheVariants as kind
use Rattle.srb_terms.specs.declared.fact.ParamShape.{ParamShape}
use Rattle.srb_terms.specs.declared.outline.Outline.{Outline}
use Rattle.srb_terms.specs.declared.ty.Param.{Param}
use Rattle.srb_terms.specs.declared.ty.Ty.{Ty, out-Ty}
use Rattle.srb_terms.specs.declared.ty.Ty.TheOpen.{Ty-F}
use Rattle.srb_terms.specs.declared.ty.Ty.TheVariants as ty
use Rattle.rb_outline.specs.Outlines.{outline_at}
use Rattle.srb_shapes.specs.Comparing.{is_sub_of}
use Rattle.srb_types.specs.Normal.{any_of, array_of, hash_of, meet_of, without_of}
use Rattle.srb_types.specs.Shown.{shown}
use Rattle.srb_sig.specs.Chains.{well_formed}
use Rattle.srb_sig.specs.Signatures.{sig_read}
use Rattle.srb_sig.specs.Types.{class_type, type_of}
use Rattle.srb_sig.specs.declared.signature.SigRead.{SigRead}
use Rattle.srb_calls.specs.declared.args.Arg.{Arg}
use Rattle.srb_calls.specs.declared.args.Args.{Args}
use Rattle.srb_calls.specs.declared.args.CallEnd.{CallEnd}
use Rattle.srb_calls.specs.declared.args.GivenBlock as given
use Rattle.srb_calls.specs.declared.args.KeyArg.{KeyArg}
use Rattle.srb_calls.specs.declared.args.Recv.{Recv}
use Rattle.srb_calls.specs.Calls.{call_of}
use Rattle.srb_judgement.specs.Languages.{Language, Meaning, ClassNamed, ModuleNamed, ValueOf, Unresolved, Given, Named, GivenBlock, Sent, Answer, Typed, Signature}
use Rattle.srb_language.specs.Knowledge.{Knowledge, members_of}

-- ---- types

-- whether a type has no part
abbrev pub is_never_at : {X : Type 0} → Ty-F X → Bool
is_never_at Ty-F.Never = true
is_never_at _ = false

unfoldable pub is_never : Ty → Bool
is_never t = is_never_at (out-Ty t)

-- ---- names

-- "A constant that names a class or module .. a value constant .. an unresolved one"
abbrev pub meant_by : Knowledge → List ℕ → Option Kind → Meaning Ty
meant_by k name (Some kind.Class) = ClassNamed name
meant_by k name (Some kind.Module) = ModuleNamed name
meant_by k name (Some kind.Value) = ValueOf (unwrap_or (k.value name) ty.Untyped)
meant_by k name None = Unresolved

abbrev pub meant : Knowledge → Option (List ℕ) → Meaning Ty
meant k None = Unresolved
meant k (Some name) = meant_by k name (k.view.lineage.kind name)

-- what a path stands for in the bodies with these full names
abbrev pub meaning_of : Knowledge → List (List ℕ) → List (List ℕ) → Meaning Ty
meaning_of k scope path = meant k (k.view.finds scope path)

-- "a class with `Exception` in its `Lin`"
abbrev pub is_exception : Knowledge → List ℕ → Bool
is_exception k name = has_name (codes "Exception") (k.view.lineage.lin name)

-- "A variable is looked up along `Lin`": the first of some classes and modules that declares it
abbrev pub first_ivar : Knowledge → Bool → List ℕ → List (List ℕ) → Option Ty
first_ivar k meta name [] = None
first_ivar k meta name (c ∷ cs) = option_or (k.ivar c meta name) (first_ivar k meta name cs)

abbrev pub instance_variable_of : Knowledge → List ℕ → Bool → List ℕ → Option Ty
instance_variable_of k owner meta name = first_ivar k meta name (k.view.lineage.lin owner)

-- ---- signatures

abbrev pub typed_param : Param → Typed Ty
typed_param p = record { name = p.name; ty = p.ty }

-- The type against which results are checked: none of an `abstract` method. A `void` method has the result `T.untyped`, of which every type
-- is a subtype.
abbrev pub checked_result : Bool → Ty → Option Ty
checked_result true t = Some t
checked_result false t = None

abbrev pub seen_sig : SigRead → Signature Ty
seen_sig r = record { params = map typed_param r.params; result = checked_result r.checked r.result }

-- the signature of a method with these parameters; None where it is malformed
abbrev pub signature_of : Knowledge → List (List ℕ) → Outline → List ParamShape → Option (Signature Ty)
signature_of k scope text params = option_map (λ s. seen_sig (sig_read k.view scope params s)) (well_formed params text)

-- ---- calls

abbrev pub arg_of : Given Ty → Arg
arg_of g = record { ty = g.ty; span = g.span }

abbrev pub key_of : Named Ty → KeyArg
key_of n = record { name = n.name; ty = n.ty; span = n.span }

abbrev pub block_of : GivenBlock Ty → given.GivenBlock
block_of b = record { names = b.names; ty = b.ty }

abbrev pub recv_of : Sent Ty → Recv
recv_of s = record { ty = s.receiver; name = s.name; span = s.name_span }

abbrev pub args_by : List (Given Ty) → List (Named Ty) → Option (GivenBlock Ty) → Args
args_by positional keys block = record { positional = map arg_of positional; keys = map key_of keys; block = option_map block_of block }

abbrev pub args_of : Sent Ty → Args
args_of s = args_by s.positional s.keys s.block

abbrev pub answer_of : CallEnd → Answer Ty
answer_of e = record { result = e.result; block = e.block; errors = e.errors }

abbrev pub answered : Knowledge → Sent Ty → Answer Ty
answered k s = answer_of (call_of (members_of k) (recv_of s) (args_of s))

-- ---- the whole

abbrev pub language_of : Knowledge → Language Ty Outline
language_of k = record {
  is_sub = is_sub_of k.view.lineage;
  any = any_of k.view.lineage;
  meet = meet_of k.view.lineage;
  without = without_of k.view.lineage;
  untyped = ty.Untyped;
  never = ty.Never;
  is_never = is_never;
  instance = class_type;
  class_object = λ name. ty.Meta name;
  array = array_of k.view.lineage;
  hash = hash_of k.view.lineage;
  show = shown;
  meaning = meaning_of k;
  is_exception = is_exception k;
  instance_variable = instance_variable_of k;
  text_at = outline_at (λ o. o);
  reads = type_of k.view;
  signature = signature_of k;
  call = answered k;
}
