use Rattle.std.proofs.Common.{◌≡◌, length}
use Rattle.rb_views.specs.Paths as spec
use Rattle.rb_views.proofs.path.after_constants.Given as goal

abbrev pub decreases-rest : goal.decreases-rest
decreases-rest g l = length l.rest

abbrev pub invariant-rest : goal.invariant-rest
invariant-rest g l = spec.after_constants l.rest ≡ spec.after_constants l.fn.suffixes
