use Rattle.std.proofs.Common.{◌≡◌, ◌+◌, ◌-◌, ◌≤◌, ◌++◌, drop, length}
use Rattle.srb_text.specs.LineStarts.{starts_after}
use Rattle.srb_text.proofs.table.push_starts.Given as goal

abbrev pub invariant-ends : goal.invariant-ends
invariant-ends l =
    (l.i ≤ length l.bytes) × (l.starts.items ++ starts_after (l.at + l.i) (drop l.i l.bytes) l.rest ≡ l.fn.starts.items ++ starts_after l.at l.bytes l.rest)

abbrev pub decreases-ends : goal.decreases-ends
decreases-ends l = length l.bytes - l.i
