-- The types of a block's parameters.
use Rattle.std.specs.Prelude.{ℕ, Bool, true, false, ◌&&◌, List, [], ◌∷◌, ◌++◌, Option, None, Some, length, nat_lt, replicate, take, if◌then◌else◌}
use Rattle.srb_terms.specs.declared.param_kind.ParamKind.{ParamKind}
use Rattle.srb_terms.specs.declared.param_kind.ParamKind.TheVariants as param
use Rattle.srb_terms.specs.declared.ty.Param.{Param}
use Rattle.srb_terms.specs.declared.ty.Ty.{Ty, out-Ty}
use Rattle.srb_terms.specs.declared.ty.Ty.TheOpen.{Ty-F}
use Rattle.srb_terms.specs.declared.ty.Ty.TheVariants as ty
use Rattle.srb_shapes.specs.Lineages.{Lineage}
use Rattle.srb_types.specs.Normal.{any_of}
use Rattle.srb_calls.specs.declared.args.Arg.{Arg}
use Rattle.srb_calls.specs.declared.args.GivenBlock.{GivenBlock}
use Rattle.srb_calls.specs.Letters.{is_letter, put_in}

-- ---- `T.any`

abbrev pub is_never_at : {X : Type 0} → Ty-F X → Bool
is_never_at Ty-F.Never = true
is_never_at _ = false

abbrev pub is_never : Ty → Bool
is_never t = is_never_at (out-Ty t)

-- `T.any` of two types in normal form, to which `T.noreturn` adds nothing
unfoldable pub either : Lineage → Ty → Ty → Ty
either L a b = if is_never a then b else (if is_never b then a else any_of L a b)

-- ---- blocks

-- the number of names of a block; without a block there are none
abbrev pub names_of : Option GivenBlock → ℕ
names_of None = 0
names_of (Some b) = b.names

-- B: the type of the block, `T.untyped` without one
abbrev pub block_type : Option GivenBlock → Ty
block_type None = ty.Untyped
block_type (Some b) = b.ty

abbrev pub is_block : ParamKind → Bool
is_block param.Block = true
is_block _ = false

-- whether the parameter is one of a block that a method of the built-in table gives; such names begin with `%`
abbrev pub is_given : Param → Bool
is_given p = is_block p.kind && is_letter p.name

-- the types that a method gives to its block after some others, none where the method isn't in the built-in table; they don't hold B
abbrev pub with_given : Lineage → Ty → List Arg → List Ty → Param → List Ty
with_given L part positional given p = if is_given p then given ++ put_in L part positional ty.Untyped p.ty ∷ [] else given

abbrev pub gives : Lineage → Ty → List Arg → List Ty → List Param → List Ty
gives L part positional given [] = given
gives L part positional given (p ∷ ps) = gives L part positional (with_given L part positional given p) ps

-- the types of a block's names by what is given: all are `T.untyped` where there are more names
unfoldable pub named : ℕ → List Ty → List Ty
named n given = if nat_lt (length given) n then replicate n ty.Untyped else take n given

-- `T.any` for each name, after some others
abbrev pub each_either : Lineage → List Ty → List Ty → List Ty → List Ty
each_either L joined [] bs = joined
each_either L joined (a ∷ more) [] = joined
each_either L joined (a ∷ more) (b ∷ bs) = each_either L (joined ++ either L a b ∷ []) more bs
