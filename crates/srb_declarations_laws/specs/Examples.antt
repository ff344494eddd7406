-- The place of a declaration in its tree.
use Rattle.rb_places_laws.specs.TreePlaces.{IsPlaceIn}
use Rattle.srb_declarations.specs.Examples.{MIXINS, from_to}

-- of `include M::N, m, k: v` in a class: the whole `k: v`
abbrev pub LabelledIsAPlace : Type 0
LabelledIsAPlace = IsPlaceIn MIXINS (from_to 26 30)
