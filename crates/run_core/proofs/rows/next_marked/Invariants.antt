use Rattle.std.proofs.Common.{◌≤◌, ◌-◌, length}
use Rattle.run_core.specs.Rows.{first_marked}
use Rattle.run_core.proofs.rows.next_marked.Given as goal

-- no row so far has the mark
abbrev pub invariant-rows : goal.invariant-rows
invariant-rows l = l.index ≤ first_marked l.mark l.rows

abbrev pub decreases-rows : goal.decreases-rows
decreases-rows l = length l.rows - l.index
