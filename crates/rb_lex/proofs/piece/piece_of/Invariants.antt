use Rattle.std.proofs.Common.{◌≡◌, ◌+◌, length}
use Rattle.rb_lex.specs.Pieces.{piece_from, piece_of}
use Rattle.rb_lex.proofs.piece.piece_of.Given as goal

abbrev pub invariant-loop-z : goal.invariant-loop-z
invariant-loop-z l = (piece_from l.quote l.is_taken l.len l.z ≡ piece_of l.quote l.initial.z) × (l.len + length l.z ≡ length l.initial.z)

abbrev pub decreases-loop-z : goal.decreases-loop-z
decreases-loop-z l = length l.z
