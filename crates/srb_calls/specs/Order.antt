-- The parts of a type in shown order.
use Rattle.std.specs.Prelude.{ℕ, Bool, false, ◌&&◌, List, ◌++◌, bytes_eq, nat_eq, if◌then◌else◌}
use Rattle.std.specs.List.{filter, list_any}
use Rattle.srb_terms.specs.declared.ty.Ty.{Ty, out-Ty}
use Rattle.srb_terms.specs.declared.ty.Ty.TheOpen.{Ty-F}
use Rattle.srb_types.specs.Order.{is_before}
use Rattle.srb_types.specs.Shown.{BOOLEAN, FALSE, TRUE, shown}

-- whether a part is the class of this name
abbrev pub is_named_at : {X : Type 0} → List ℕ → Ty-F X → Bool
is_named_at name (Ty-F.Class c) = bytes_eq c name
is_named_at name _ = false

abbrev pub is_named : List ℕ → Ty → Bool
is_named name t = is_named_at name (out-Ty t)

-- Where a part stands: before `T::Boolean`, in it as the first or the second of the two, or after it.
unfoldable pub rank : Ty → ℕ
rank t =
    if is_named FALSE t then 1
    else (if is_named TRUE t then 2
    else (if is_before (shown t) BOOLEAN then 0 else 3))

abbrev pub in_rank : ℕ → List Ty → List Ty
in_rank n parts = filter (λ t. nat_eq (rank t) n) parts

-- whether `TrueClass` and `FalseClass` are both among the parts
abbrev pub has_both : List Ty → Bool
has_both parts = list_any (is_named TRUE) parts && list_any (is_named FALSE) parts

-- The parts of a normal form stand in the order of their texts. `TrueClass` and `FalseClass` together are one part of the shown text,
-- in the place of `T::Boolean`, and there `FalseClass` is the first of the two.
abbrev pub in_shown_order : List Ty → List Ty
in_shown_order parts =
    if has_both parts then in_rank 0 parts ++ in_rank 1 parts ++ in_rank 2 parts ++ in_rank 3 parts else parts
