use Rattle.std.proofs.Common.{◌≡◌, ◌++◌, length}
use Rattle.srb_walk.proofs.written.in_front.Given as goal

abbrev pub invariant-rest : goal.invariant-rest
invariant-rest l = l.rest ++ l.all ≡ l.fn.front ++ l.fn.names

abbrev pub decreases-rest : goal.decreases-rest
decreases-rest l = length l.rest
