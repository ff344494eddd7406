use Rattle.std.proofs.Common.{◌≡◌, length}
use Rattle.srb_shapes.specs.Lineages.{lineage_at}
use Rattle.srb_types.specs.Normal.{has_two_classes}
use Rattle.srb_types.proofs.names.has_two_classes.Given as goal

abbrev pub decreases-left : goal.decreases-left
decreases-left l = length l.left

abbrev pub invariant-left : goal.invariant-left
invariant-left l = has_two_classes (lineage_at l.w) l.left ≡ has_two_classes (lineage_at l.w) l.fn.names
