use Rattle.rb_places_laws.proofs.Examples.{front-is-a-place, path-is-a-place, superclass-is-a-place, colons-are-no-place}
use Rattle.rb_places_laws.proofs.examples_are_places.Goals as goal

pub returns-clause-front : goal.returns-clause-front
returns-clause-front c = front-is-a-place

pub returns-clause-path : goal.returns-clause-path
returns-clause-path c = path-is-a-place

pub returns-clause-superclass : goal.returns-clause-superclass
returns-clause-superclass c = superclass-is-a-place

pub returns-clause-colons : goal.returns-clause-colons
returns-clause-colons c = colons-are-no-place
