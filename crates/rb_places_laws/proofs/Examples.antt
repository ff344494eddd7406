-- The examples, by their nodes.
use Rattle.std.proofs.Common.{◌≡◌, ◌==◌, Bool, true, false, not, [], ◌∷◌, codes, Some, refl}
use Rattle.srb_terms.specs.declared.span.Span.{Span}
use Rattle.rb_tree.specs.Nodes as tree
use Rattle.rb_tree.specs.Trees.{span_of}
use Rattle.rb_tree.specs.declared.syntax.Node as syntax
use Rattle.rb_tree.specs.declared.syntax.Node.{Node}
use Rattle.rb_tree.specs.declared.syntax.Node.TheOpen.{Node-F}
use Rattle.rb_tree.specs.declared.syntax.Tree.{Tree}
use denote.Hole.Carrier as carrier
use Rattle.rb_grammar.specs.Examples.{from_to}
use Rattle.rb_places_laws.specs.Examples.{LONG_CLASS, ColonsAreNoPlace, FrontIsAPlace, PathIsAPlace, SuperclassIsAPlace}
use Rattle.rb_places_laws.specs.TreePlaces.{HasAll, HasPlaces}
use Rattle.rb_places_laws.proofs.TreePlaces.{rolled-up, taken-apart}

abbrev EMPTY : Tree
EMPTY = tree.Body [] (from_to 0 0)

abbrev NODE : Node-F Node Tree
NODE = Node-F.Class (record { name = codes "A"; span = from_to 6 7 } ∷ record { name = codes "B"; span = from_to 9 10 } ∷ [])
    (Some (record { top = false; path = record { name = codes "C"; span = from_to 13 14 } ∷ []; span = from_to 13 14 })) EMPTY (from_to 0 19)

places : (test : Span → Bool) → HasPlaces (λ place. test place ≡ true) LONG_CLASS → HasAll (λ place. test place ≡ true) span_of (HasPlaces (λ place. test place ≡ true)) NODE
unfolding syntax.roll-Node carrier.roll
places test has = taken-apart (λ place. test place ≡ true) LONG_CLASS NODE refl has

pub front-is-a-place : FrontIsAPlace
front-is-a-place test has = (places test has).1.0.0

pub path-is-a-place : PathIsAPlace
path-is-a-place test has = (places test has).1.0.1.0

pub superclass-is-a-place : SuperclassIsAPlace
superclass-is-a-place test has = (places test has).1.1

-- no place begins where the `::` does
abbrev begins_elsewhere : Span → Bool
begins_elsewhere place = not (place.start == 7)

pub colons-are-no-place : ColonsAreNoPlace
unfolding syntax.roll-Node carrier.roll
colons-are-no-place is =
    let P : Span → Type 0 = λ place. begins_elsewhere place ≡ true in
    let empty : HasPlaces P EMPTY = rolled-up P (Node-F.Body [] (from_to 0 0)) ((refl, tt), tt) in
    let whole : HasPlaces P LONG_CLASS = rolled-up P NODE ((refl, empty), ((refl, (refl, tt)), refl)) in
    absurd (cc (is begins_elsewhere whole))
