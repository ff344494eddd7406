-- Calls: what a call answers, what it gives to its block, and its errors, by what is known of a project.
use Rattle.std.specs.Prelude.{ℕ, List, [], ◌∷◌, ◌++◌, Option, None, Some, codes, bytes_eq, replicate, if◌then◌else◌}
use Rattle.srb_terms.specs.declared.diag.Diag.{Diag}
use Rattle.srb_terms.specs.declared.ty.Param.{Param}
use Rattle.srb_terms.specs.declared.ty.Ty.{Ty, out-Ty}
use Rattle.srb_terms.specs.declared.ty.Ty.TheOpen.{Ty-F}
use Rattle.srb_terms.specs.declared.ty.Ty.TheVariants as ty
use Rattle.srb_shapes.specs.Lineages.{Lineage}
use Rattle.srb_shapes.specs.Parts.{parts_of}
use Rattle.srb_types.specs.Shown.{shown}
use Rattle.srb_members.specs.Members as members
use Rattle.srb_members.specs.Members.{member_of}
use Rattle.srb_members.specs.Views.{Members}
use Rattle.srb_calls.specs.declared.args.Args.{Args}
use Rattle.srb_calls.specs.declared.args.CallEnd.{CallEnd}
use Rattle.srb_calls.specs.declared.args.Recv.{Recv}
use Rattle.srb_calls.specs.Blocks.{block_type, each_either, either, gives, named, names_of}
use Rattle.srb_calls.specs.Counts.{count_fault}
use Rattle.srb_calls.specs.Letters.{put_in}
use Rattle.srb_calls.specs.Matching.{arguments_taken, taken}
use Rattle.srb_calls.specs.Messages.{diag, missing_method, untyped_receiver}
use Rattle.srb_calls.specs.Order.{in_shown_order}

-- ---- the result

-- an instance of the class whose class object the part is; `Array` and `Hash` alone have untyped arguments
abbrev pub instance_named : List ℕ → Ty
instance_named c =
    if bytes_eq c (codes "Array") then ty.Arr ty.Untyped
    else (if bytes_eq c (codes "Hash") then ty.Hsh ty.Untyped ty.Untyped else ty.Class c)

abbrev pub instance_at : {X : Type 0} → Ty-F X → Ty
instance_at (Ty-F.Meta c) = instance_named c
instance_at _ = ty.Untyped

unfoldable pub instance_of : Ty → Ty
instance_of part = instance_at (out-Ty part)

-- that of the method with the letters put in, and the class of `new`; else `T.untyped`
abbrev pub part_result : Lineage → Ty → Args → members.Member → Ty
part_result L part args (members.Member.Declared m) = put_in L part args.positional (block_type args.block) m.result
part_result L part args (members.Member.Made m) = instance_of part
part_result L part args members.Member.Free = ty.Untyped
part_result L part args members.Member.Missing = ty.Untyped

-- ---- the block

-- what the parameters of a method give to its block
abbrev pub params_of : members.Member → List Param
params_of (members.Member.Declared m) = m.params
params_of (members.Member.Made m) = m.params
params_of members.Member.Free = []
params_of members.Member.Missing = []

abbrev pub part_block : Lineage → Ty → Args → members.Member → List Ty
part_block L part args m = named (names_of args.block) (gives L part args.positional [] (params_of m))

-- ---- the errors

-- the first wrong count, and then no type of an argument; else each argument
abbrev pub counted : List Diag → List Diag → Recv → Option (List ℕ) → List Diag
counted errors matched recv None = matched
counted errors matched recv (Some text) = errors ++ diag recv.span 7004 text ∷ []

unfoldable pub method_errors : Lineage → Ty → Recv → Args → List Param → List Diag → List Diag
method_errors L part recv args params errors =
    counted errors (arguments_taken (taken L part args recv.name) params args errors) recv
    (count_fault recv.name params args.positional args.keys)

abbrev pub part_errors : Lineage → Ty → Recv → Args → members.Member → List Diag → List Diag
part_errors L part recv args (members.Member.Declared m) errors = method_errors L part recv args m.params errors
part_errors L part recv args (members.Member.Made m) errors = method_errors L part recv args m.params errors
part_errors L part recv args members.Member.Free errors = errors ++ diag recv.span 7018 (untyped_receiver recv.name) ∷ []
part_errors L part recv args members.Member.Missing errors =
    errors ++ diag recv.span 7003 (missing_method recv.name (shown part)) ∷ []

-- ---- the parts of the receiver

-- what one part adds to what those before it answer
abbrev pub with_member : Lineage → Recv → Args → CallEnd → Ty → members.Member → CallEnd
with_member L recv args end part m = record {
  result = either L end.result (part_result L part args m);
  block = each_either L [] end.block (part_block L part args m);
  errors = part_errors L part recv args m end.errors;
}

unfoldable pub with_part : Members → Recv → Args → CallEnd → Ty → CallEnd
with_part k recv args end part = with_member k.lineage recv args end part (member_of k recv.name part)

-- each part answers by itself
abbrev pub with_parts : Members → Recv → Args → CallEnd → List Ty → CallEnd
with_parts k recv args end [] = end
with_parts k recv args end (part ∷ parts) = with_parts k recv args (with_part k recv args end part) parts

-- without any part: `T.noreturn` as a receiver
abbrev pub no_part : Args → CallEnd
no_part args = record { result = ty.Never; block = replicate (names_of args.block) ty.Never; errors = [] }

-- what a call answers
unfoldable pub call_of : Members → Recv → Args → CallEnd
call_of k recv args = with_parts k recv args (no_part args) (in_shown_order (parts_of recv.ty))
