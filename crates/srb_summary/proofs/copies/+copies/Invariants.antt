use Rattle.std.proofs.Common.{◌≡◌, take}
use Rattle.srb_summary.proofs.copies.+copies.Given as goal

abbrev pub invariant-copied_outlines-outlines : goal.invariant-copied_outlines-outlines
invariant-copied_outlines-outlines l = l.copies.items ≡ take l.outline-index l.outlines
