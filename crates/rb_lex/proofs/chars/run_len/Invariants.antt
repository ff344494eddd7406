use Rattle.std.proofs.Common.{◌≡◌, ◌+◌, drop}
use Rattle.rb_lex.specs.Chars.{run_len}
use Rattle.rb_lex.proofs.chars.run_len.Given as goal

abbrev pub invariant-loop-at : goal.invariant-loop-at
invariant-loop-at l = run_len l.set l.z ≡ l.at + run_len l.set (drop l.at l.z)
