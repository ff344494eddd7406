-- The place is that of one of the declarations that are computed.
use Rattle.std.proofs.Common.{subst}
use Rattle.rb_grammar.specs.Places.{Each}
use Rattle.rb_places_laws.specs.TreePlaces.{IsPlaceIn}
use Rattle.srb_declarations.specs.Examples.{MIXINS}
use Rattle.srb_declarations.proofs.Examples.{mixins}
use Rattle.srb_declarations_laws.proofs.Places.{declarations-in-trees}
use Rattle.srb_declarations_laws.specs.Examples.{LabelledIsAPlace}
use Rattle.srb_declarations_laws.specs.Placed.{place_of}

pub labelled-is-a-place : LabelledIsAPlace
labelled-is-a-place = (subst (Each (λ d. IsPlaceIn MIXINS (place_of d))) mixins (declarations-in-trees MIXINS)).1.1.1.0
