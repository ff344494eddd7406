use Rattle.std.proofs.Common.{◌≡◌, length, map}
use Rattle.rb_views.specs.Paths as spec
use Rattle.rb_views.proofs.path.PathNames.is_spelled.Given as goal

abbrev pub decreases-left : goal.decreases-left
decreases-left l = length l.left

abbrev pub invariant-left : goal.invariant-left
invariant-left l =
    spec.spelled (spec.seen_names l.names) (map (λ w. w.now) l.left)
    ≡ spec.spelled (spec.seen_names l.fn.self) (map (λ w. w.now) l.fn.words)
