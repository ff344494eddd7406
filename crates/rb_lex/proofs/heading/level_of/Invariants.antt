use Rattle.std.proofs.Common.{◌≡◌, length}
use Rattle.rb_lex.specs.Levels.{level_of}
use Rattle.rb_lex.proofs.heading.level_of.Given as goal

abbrev pub invariant-loop-rest : goal.invariant-loop-rest
invariant-loop-rest l = level_of l.rest ≡ level_of l.fn.text

abbrev pub decreases-loop-rest : goal.decreases-loop-rest
decreases-loop-rest l = length l.rest
