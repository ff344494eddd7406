use Rattle.std.proofs.Common.{◌≡◌, ◌++◌, false, drop, length}
use Rattle.srb_terms.specs.Worlds.{has_colon}
use Rattle.srb_table.proofs.inner.last_colon.Given as goal

abbrev pub invariant-loop-last : goal.invariant-loop-last
invariant-loop-last l = (l.rest ++ drop (length l.rest) l.fn.bytes ≡ l.fn.bytes) × (has_colon (drop (length l.rest) l.fn.bytes) ≡ false)

abbrev pub decreases-loop-last : goal.decreases-loop-last
decreases-loop-last l = length l.rest
