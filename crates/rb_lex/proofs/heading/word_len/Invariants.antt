use Rattle.std.proofs.Common.{◌≡◌, ◌+◌, drop}
use Rattle.rb_lex.specs.Levels.{word_len}
use Rattle.rb_lex.proofs.heading.word_len.Given as goal

abbrev pub invariant-loop-at : goal.invariant-loop-at
invariant-loop-at l = word_len l.text ≡ l.at + word_len (drop l.at l.text)
