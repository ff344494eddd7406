use Rattle.std.proofs.Common.{◌≡◌, ◌+◌, drop}
use Rattle.rb_lex.specs.Chars.{line_len}
use Rattle.rb_lex.proofs.chars.line_len.Given as goal

abbrev pub invariant-loop-at : goal.invariant-loop-at
invariant-loop-at l = line_len l.z ≡ l.at + line_len (drop l.at l.z)
