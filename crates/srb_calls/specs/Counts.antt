-- Whether the arguments of a call are as many as the method's parameters ask for.
use Rattle.std.specs.Prelude.{ℕ, ◌-◌, Bool, true, false, not, ◌&&◌, List, [], ◌∷◌, Option, None, Some, bytes_eq, is_some, length, nat_eq, if◌then◌else◌}
use Rattle.std.specs.List.{find, list_any}
use Rattle.std.specs.Option.{option_map, option_or}
use Rattle.srb_terms.specs.declared.param_kind.ParamKind.{ParamKind}
use Rattle.srb_terms.specs.declared.param_kind.ParamKind.TheVariants as param
use Rattle.srb_terms.specs.declared.ty.Param.{Param}
use Rattle.srb_calls.specs.declared.args.Arg.{Arg}
use Rattle.srb_calls.specs.declared.args.KeyArg.{KeyArg}
use Rattle.srb_calls.specs.Messages as messages

-- ---- by place

-- how many arguments by place are left after a parameter that must have one of so many; None where there is none for it
abbrev pub left_by : Bool → ℕ → Option ℕ
left_by true n = None
left_by false n = Some (n - 1)

abbrev pub left_of_few : ParamKind → ℕ → Option ℕ
left_of_few param.Required n = left_by (nat_eq n 0) n
left_of_few _ n = Some n

abbrev pub few_after : (ℕ → Bool) → Option ℕ → Bool
few_after next None = true
few_after next (Some n) = next n

-- whether so many arguments by place are fewer than the required parameters
abbrev pub are_few : List Param → ℕ → Bool
are_few [] n = false
are_few (p ∷ ps) n = few_after (are_few ps) (left_of_few p.kind n)

-- how many are left after a parameter that may take one; None where it takes all
abbrev pub left_of_many : ParamKind → ℕ → Option ℕ
left_of_many param.Required n = Some (n - 1)
left_of_many param.Optional n = Some (n - 1)
left_of_many param.Rest n = None
left_of_many _ n = Some n

abbrev pub many_after : (ℕ → Bool) → Option ℕ → Bool
many_after next None = false
many_after next (Some n) = next n

-- whether so many are more than the required and optional parameters; a rest parameter takes all
abbrev pub are_many : List Param → ℕ → Bool
are_many [] n = not (nat_eq n 0)
are_many (p ∷ ps) n = many_after (are_many ps) (left_of_many p.kind n)

-- ---- by name

abbrev pub is_key : ParamKind → Bool
is_key param.Key = true
is_key param.KeyOptional = true
is_key _ = false

abbrev pub is_required_key : ParamKind → Bool
is_required_key param.Key = true
is_required_key _ = false

-- whether the parameter is the keyword of this name
abbrev pub is_keyword : List ℕ → Param → Bool
is_keyword name p = is_key p.kind && bytes_eq p.name name

-- the first keyword argument that no parameter takes
abbrev pub unknown : List Param → List KeyArg → Option (List ℕ)
unknown params [] = None
unknown params (k ∷ ks) = if is_some (find (is_keyword k.name) params) then unknown params ks else Some k.name

-- the first keyword that may not be left out and isn't given
abbrev pub is_left_out : List KeyArg → Param → Bool
is_left_out keys p = is_required_key p.kind && not (list_any (λ k. bytes_eq k.name p.name) keys)

abbrev pub left_out : List KeyArg → List Param → Option (List ℕ)
left_out keys [] = None
left_out keys (p ∷ ps) = if is_left_out keys p then Some p.name else left_out keys ps

-- ---- the first wrong count

abbrev pub keyword_fault : List ℕ → List Param → List KeyArg → Option (List ℕ)
keyword_fault m params keys =
    option_or (option_map (λ k. messages.unknown_keyword k m) (unknown params keys))
    (option_map (λ k. messages.missing_keyword k m) (left_out keys params))

-- the text of the first wrong count for the method that is called m: too few, too many, an unknown keyword, a missing one
unfoldable pub count_fault : List ℕ → List Param → List Arg → List KeyArg → Option (List ℕ)
count_fault m params positional keys =
    if are_few params (length positional) then Some (messages.too_few m)
    else (if are_many params (length positional) then Some (messages.too_many m) else keyword_fault m params keys)
