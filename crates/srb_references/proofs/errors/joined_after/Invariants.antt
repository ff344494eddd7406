use Rattle.std.proofs.Common.{◌≡◌, length, string_bytes}
use Rattle.srb_references.specs.References.{joined_after}
use Rattle.srb_references.proofs.errors.joined_after.Given as goal

abbrev pub decreases-left : goal.decreases-left
decreases-left l = length l.left

abbrev pub invariant-left : goal.invariant-left
invariant-left l = joined_after (string_bytes l.text) l.left ≡ joined_after (string_bytes l.fn.so_far) l.fn.names
