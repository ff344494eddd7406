use Rattle.rb_refusal_laws.proofs.Places.{deep-places-are-exact}
use Rattle.rb_refusal_laws.proofs.Refused.{none-bad-before-deep}
use Rattle.rb_refusal_laws.proofs.deep_places_are_exact.Goals as goal

pub returns-clause-deep : goal.returns-clause-deep
returns-clause-deep c = deep-places-are-exact

pub returns-clause-none : goal.returns-clause-none
returns-clause-none c = none-bad-before-deep
