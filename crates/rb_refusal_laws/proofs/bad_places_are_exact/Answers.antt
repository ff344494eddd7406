use Rattle.rb_refusal_laws.proofs.Places.{bad-places-are-exact}
use Rattle.rb_refusal_laws.proofs.bad_places_are_exact.Goals as goal

pub returns : goal.returns
returns c = bad-places-are-exact
