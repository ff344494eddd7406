use Rattle.std.proofs.Common.{◌≡◌, ◌+◌, length}
use Rattle.rb_lex.specs.Numbers.{more_digits}
use Rattle.rb_lex.proofs.number.more_digits.Given as goal

abbrev pub invariant-loop-z : goal.invariant-loop-z
invariant-loop-z l = (l.count + more_digits l.digits l.z ≡ more_digits l.digits l.initial.z) × (l.count + length l.z ≡ length l.initial.z)

abbrev pub decreases-loop-z : goal.decreases-loop-z
decreases-loop-z l = length l.z
