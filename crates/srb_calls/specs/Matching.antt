-- The arguments of a call against the parameters that take them.
use Rattle.std.specs.Prelude.{ℕ, List, [], ◌∷◌, ◌++◌, Option, None, Some, drop, length, nat_eq, take, if◌then◌else◌}
use Rattle.std.specs.List.{find}
use Rattle.srb_terms.specs.declared.diag.Diag.{Diag}
use Rattle.srb_terms.specs.declared.param_kind.ParamKind.{ParamKind}
use Rattle.srb_terms.specs.declared.param_kind.ParamKind.TheVariants as param
use Rattle.srb_terms.specs.declared.span.Span.{Span}
use Rattle.srb_terms.specs.declared.ty.Param.{Param}
use Rattle.srb_terms.specs.declared.ty.Ty.{Ty}
use Rattle.srb_shapes.specs.Comparing.{is_sub_of}
use Rattle.srb_shapes.specs.Lineages.{Lineage}
use Rattle.srb_types.specs.Shown.{shown}
use Rattle.srb_calls.specs.declared.args.Arg.{Arg}
use Rattle.srb_calls.specs.declared.args.Args.{Args}
use Rattle.srb_calls.specs.declared.args.KeyArg.{KeyArg}
use Rattle.srb_calls.specs.Blocks.{block_type}
use Rattle.srb_calls.specs.Counts.{is_keyword}
use Rattle.srb_calls.specs.Letters.{put_in}
use Rattle.srb_calls.specs.Messages.{diag, wrong_argument}

-- ---- one argument

-- the errors with that of an argument of this type and place which the parameter p of m takes: it must be a subtype
abbrev pub expected : Lineage → List ℕ → List ℕ → Ty → Ty → Span → List Diag → List Diag
expected L m p want found span errors =
    if is_sub_of L found want then errors
    else errors ++ diag span 7002 (wrong_argument p m (shown want) (shown found)) ∷ []

-- the same of a parameter of a method that is called on a part of the receiver
unfoldable pub taken : Lineage → Ty → Args → List ℕ → Param → Ty → Span → List Diag → List Diag
taken L part args m p found span errors =
    expected L m p.name (put_in L part args.positional (block_type args.block) p.ty) found span errors

-- what one more argument adds to the errors
abbrev pub Taking : Type 0
Taking = Param → Ty → Span → List Diag → List Diag

-- ---- by place

-- one parameter takes these arguments
abbrev pub all_taken : Taking → Param → List Arg → List Diag → List Diag
all_taken take-one p [] errors = errors
all_taken take-one p (a ∷ more) errors = all_taken take-one p more (take-one p a.ty a.span errors)

-- of so many arguments that are left, a required or optional parameter takes the next one, and a rest parameter takes all
abbrev pub at_most_one : ℕ → ℕ
at_most_one n = if nat_eq n 0 then 0 else 1

abbrev pub share : ParamKind → ℕ → ℕ
share param.Required n = at_most_one n
share param.Optional n = at_most_one n
share param.Rest n = n
share _ n = 0

-- arguments by place go to the parameters in order
abbrev pub places_taken : Taking → List Param → List Arg → List Diag → List Diag
places_taken take-one [] args errors = errors
places_taken take-one (p ∷ ps) args errors =
    places_taken take-one ps (drop (share p.kind (length args)) args)
    (all_taken take-one p (take (share p.kind (length args)) args) errors)

-- ---- by name

abbrev pub key_taken : Taking → Option Param → KeyArg → List Diag → List Diag
key_taken take-one None k errors = errors
key_taken take-one (Some p) k errors = take-one p k.ty k.span errors

-- keyword arguments go to the parameters of their names
abbrev pub keys_taken : Taking → List Param → List KeyArg → List Diag → List Diag
keys_taken take-one params [] errors = errors
keys_taken take-one params (k ∷ ks) errors = keys_taken take-one params ks (key_taken take-one (find (is_keyword k.name) params) k errors)

-- ---- all arguments

-- what the arguments add to the errors where their count is right
abbrev pub arguments_taken : Taking → List Param → Args → List Diag → List Diag
arguments_taken take-one params args errors = keys_taken take-one params args.keys (places_taken take-one params args.positional errors)
