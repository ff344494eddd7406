use Rattle.std.proofs.Common.{◌≡◌, drop}
use Rattle.rb_views.specs.Paths as spec
use Rattle.rb_views.proofs.path.up_to_constants.Given as goal

abbrev pub invariant-suffixes : goal.invariant-suffixes
invariant-suffixes g l = spec.up_to_constants l.place (drop l.suffix-index l.suffixes) ≡ spec.up_to_constants l.fn.whole l.suffixes
