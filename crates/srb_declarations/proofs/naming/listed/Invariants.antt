use Rattle.std.proofs.Common.{◌≡◌, ◌++◌, length}
use Rattle.srb_declarations.proofs.naming.listed.Given as goal

abbrev pub decreases-left : goal.decreases-left
decreases-left l = length l.left

abbrev pub invariant-left : goal.invariant-left
invariant-left l = l.left ++ l.list ≡ l.fn.names
