use Rattle.std.proofs.Common.{◌≡◌, take}
use Rattle.srb_summary.proofs.copies.copied_shapes.Given as goal

abbrev pub invariant-shapes : goal.invariant-shapes
invariant-shapes l = l.copies ≡ take l.shape-index l.shapes
