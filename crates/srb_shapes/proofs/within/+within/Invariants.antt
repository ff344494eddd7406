-- Each call takes a part of one of the two types, or stands below a caller that passes on what it is given.
use Rattle.std.proofs.Common.{◌≡◌, ℕ, ◌+◌, ◌*◌, max, drop}
use Rattle.std.specs.List.{list_all, list_any}
use Rattle.srb_terms.specs.declared.ty.Ty.{size-Ty}
use Rattle.srb_shapes.specs.Comparing.{holds, part_test, within}
use Rattle.srb_shapes.specs.Lineages.{lineage_at}
use Rattle.srb_shapes.proofs.within.+within.Given as goal

abbrev pub decreases-is_within : goal.decreases-is_within
decreases-is_within l = 4 * (goal.size-is_within l + size-Ty l.u.now) + 2

abbrev pub decreases-are_within : goal.decreases-are_within
decreases-are_within l = 4 * (goal.size-are_within l + size-Ty l.u.now) + 3

abbrev pub decreases-is_some_within : goal.decreases-is_some_within
decreases-is_some_within l = 4 * (goal.size-is_some_within l + size-Ty l.u.now) + 3

abbrev pub decreases-is_part_within : goal.decreases-is_part_within
decreases-is_part_within l = 4 * (goal.size-is_part_within l + size-Ty l.u.now) + 1

abbrev pub decreases-is_within_some : goal.decreases-is_within_some
decreases-is_within_some l = 4 * (goal.size-is_within_some l + size-Ty l.t.now) + 2

abbrev pub decreases-is_within_all : goal.decreases-is_within_all
decreases-is_within_all l = 4 * (goal.size-is_within_all l + size-Ty l.t.now) + 2

abbrev pub decreases-is_instance_of : goal.decreases-is_instance_of
decreases-is_instance_of l = 4 * (goal.size-is_instance_of l + size-Ty l.u.now) + 0

abbrev pub decreases-is_array_of : goal.decreases-is_array_of
decreases-is_array_of l = 4 * (goal.size-is_array_of l + size-Ty l.f.now) + 0

abbrev pub decreases-is_hash_of : goal.decreases-is_hash_of
decreases-is_hash_of l = 4 * (goal.size-is_hash_of l + max (size-Ty l.k.now) (size-Ty l.v.now)) + 0

abbrev pub invariant-are_within-loop-part : goal.invariant-are_within-loop-part
invariant-are_within-loop-part l =
    list_all (λ t. within l.fn.extra (lineage_at l.fn.w) t l.fn.u) (drop l.part-index l.parts)
    ≡ list_all (λ t. within l.fn.extra (lineage_at l.fn.w) t l.fn.u) l.parts

abbrev pub invariant-is_some_within-loop-member : goal.invariant-is_some_within-loop-member
invariant-is_some_within-loop-member l =
    list_any (λ t. within l.fn.extra (lineage_at l.fn.w) t l.fn.u) (drop l.member-index l.members)
    ≡ list_any (λ t. within l.fn.extra (lineage_at l.fn.w) t l.fn.u) l.members

abbrev pub invariant-is_within_some-loop-part : goal.invariant-is_within_some-loop-part
invariant-is_within_some-loop-part l =
    list_any (holds (part_test l.fn.extra (lineage_at l.fn.w) l.fn.t)) (drop l.part-index l.parts)
    ≡ list_any (holds (part_test l.fn.extra (lineage_at l.fn.w) l.fn.t)) l.parts

abbrev pub invariant-is_within_all-loop-member : goal.invariant-is_within_all-loop-member
invariant-is_within_all-loop-member l =
    list_all (holds (part_test l.fn.extra (lineage_at l.fn.w) l.fn.t)) (drop l.member-index l.members)
    ≡ list_all (holds (part_test l.fn.extra (lineage_at l.fn.w) l.fn.t)) l.members
