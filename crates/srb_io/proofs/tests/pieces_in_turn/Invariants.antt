use Rattle.std.proofs.Common.{◌≡◌}
use Rattle.srb_io.proofs.tests.pieces_in_turn.Given as goal

abbrev pub invariant-loop-length : goal.invariant-loop-length
invariant-loop-length g l = l.source.faults ≡ 0
