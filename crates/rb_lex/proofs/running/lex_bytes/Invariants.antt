use Rattle.std.proofs.Common.{◌≡◌, ◌+◌, length}
use Rattle.std.specs.Str.{IsUtf8}
use Rattle.rb_lex.specs.Lexed.{lexed_from, START, IsQuoted}
use Rattle.rb_lex.proofs.running.lex_bytes.Given as goal

abbrev pub invariant-loop-rest : goal.invariant-loop-rest
invariant-loop-rest l = (lexed_from 0 l.at l.state l.rest ≡ lexed_from 0 0 START l.fn.text) × (l.at + length l.rest ≡ length l.fn.text) × IsUtf8 l.rest × IsQuoted l.state.string

abbrev pub decreases-loop-rest : goal.decreases-loop-rest
decreases-loop-rest l = length l.rest
