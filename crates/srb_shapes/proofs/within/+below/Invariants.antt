-- A list of parts stands above its parts.
use Rattle.std.proofs.Common.{◌≡◌, ℕ, ◌+◌, ◌*◌, drop}
use Rattle.std.specs.List.{list_all, list_any}
use Rattle.srb_shapes.specs.Comparing as spec
use Rattle.srb_shapes.specs.Comparing.{holds}
use Rattle.srb_shapes.proofs.within.+below.Given as goal

abbrev pub decreases-is_below : goal.decreases-is_below
decreases-is_below l = 2 * goal.size-is_below l

abbrev pub decreases-is_below_all : goal.decreases-is_below_all
decreases-is_below_all l = 2 * goal.size-is_below_all l + 1

abbrev pub decreases-is_below_some : goal.decreases-is_below_some
decreases-is_below_some l = 2 * goal.size-is_below_some l + 1

abbrev pub invariant-is_below_all-loop-member : goal.invariant-is_below_all-loop-member
invariant-is_below_all-loop-member l =
    list_all (holds (spec.is_below l.fn.names)) (drop l.member-index l.members) ≡ list_all (holds (spec.is_below l.fn.names)) l.members

abbrev pub invariant-is_below_some-loop-part : goal.invariant-is_below_some-loop-part
invariant-is_below_some-loop-part l =
    list_any (holds (spec.is_below l.fn.names)) (drop l.part-index l.parts) ≡ list_any (holds (spec.is_below l.fn.names)) l.parts
