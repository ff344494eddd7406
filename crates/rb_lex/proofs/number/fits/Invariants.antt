use Rattle.std.proofs.Common.{◌≡◌, length}
use Rattle.rb_lex.specs.Numbers.{fits}
use Rattle.rb_lex.proofs.number.fits.Given as goal

abbrev pub invariant-loop-z : goal.invariant-loop-z
invariant-loop-z l = fits l.value l.digits l.z ≡ fits l.initial.value l.digits l.initial.z

abbrev pub decreases-loop-z : goal.decreases-loop-z
decreases-loop-z l = length l.z
