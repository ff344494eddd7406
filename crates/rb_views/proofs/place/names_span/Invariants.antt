use Rattle.std.proofs.Common.{◌≡◌, drop}
use Rattle.rb_views.specs.Places as spec
use Rattle.rb_views.proofs.place.names_span.Given as goal

abbrev pub invariant-names : goal.invariant-names
invariant-names l = spec.up_to_name l.span (drop l.name-index l.rest) ≡ spec.up_to_name l.initial.span l.rest
