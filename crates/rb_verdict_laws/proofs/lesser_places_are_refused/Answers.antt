use Rattle.rb_verdict_laws.proofs.Places.{lesser-places-are-refused}
use Rattle.rb_verdict_laws.proofs.lesser_places_are_refused.Goals as goal

pub returns : goal.returns
returns c = lesser-places-are-refused
