use Rattle.std.proofs.Common.{◌≡◌, length}
use Rattle.rb_expr.specs.Reading.{skip_separators}
use Rattle.rb_expr.proofs.reading.skip_separators.Given as goal

abbrev pub invariant-loop-rest : goal.invariant-loop-rest
invariant-loop-rest l = skip_separators l.tokens ≡ skip_separators l.rest

abbrev pub decreases-loop-rest : goal.decreases-loop-rest
decreases-loop-rest l = length l.rest
