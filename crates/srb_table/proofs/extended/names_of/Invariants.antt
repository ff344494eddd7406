use Rattle.std.proofs.Common.{◌≡◌, ◌++◌, length}
use Rattle.srb_table.proofs.extended.names_of.Given as goal

abbrev pub invariant-loop-last : goal.invariant-loop-last
invariant-loop-last l = l.rest ++ l.names ≡ l.fn.items

abbrev pub decreases-loop-last : goal.decreases-loop-last
decreases-loop-last l = length l.rest
