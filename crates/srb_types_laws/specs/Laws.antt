-- What the operations on types do to their shapes, and that their answers are in normal form. In each law every shape belongs to
-- `T.untyped`, and the unknown one to it alone, where nothing else is said.
use Rattle.std.specs.Prelude.{◌≡◌, ◌↔◌, ◌&&◌, true, false, ◌||◌, [], ◌∷◌, IsTrue}
use Rattle.srb_terms.specs.declared.ty.Ty.{Ty}
use Rattle.srb_terms.specs.declared.ty.Ty.TheVariants as ty
use Rattle.srb_shapes.specs.Lineages.{Lineage, IsLineage}
use Rattle.srb_shapes.specs.Parts.{parts_of}
use Rattle.srb_shapes.specs.Shapes.{Shape, IsShape, belongs, IsSubtype, LiesIn}
use Rattle.srb_types.specs.Normal.{all_of, any_of, array_of, hash_of, is_shallow, is_untyped, meet_of, one_untyped, without_of}
use Rattle.srb_types.specs.Shown.{BOOLEAN, FALSE, TRUE, shown}
use Rattle.srb_types_laws.specs.NormalForms.{Among, HasNoCircles, HasPlainNames, IsNormal, TextsTell, is_typed}

-- ---- parts

-- a shape belongs to each part of a type in normal form that isn't `T.untyped`, where `T.untyped` has none
abbrev pub PartsHaveShapes : Type 0
PartsHaveShapes =
    (L : Lineage) (t p : Ty) → IsLineage L → IsNormal L t → is_untyped t ≡ false → Among p (parts_of t)
    → (s : Shape) × IsShape false L s × IsTrue (belongs false L p s)

-- and none of these parts lies in another, by its shapes
abbrev pub PartsLieInNoOther : Type 0
PartsLieInNoOther =
    (L : Lineage) (t p q : Ty) → IsLineage L → IsNormal L t → is_untyped t ≡ false → Among p (parts_of t) → Among q (parts_of t)
    → LiesIn L p q → p ≡ q

-- ---- unions

-- `T.any` of two types in normal form is in normal form
abbrev pub UnionsAreNormal : Type 0
UnionsAreNormal = (L : Lineage) (t u : Ty) → IsNormal L t → IsNormal L u → IsNormal L (any_of L t u)

-- a shape belongs to `T.any` of two types exactly where it belongs to one of them
abbrev pub UnionsHaveTheShapesOfBoth : Type 0
UnionsHaveTheShapesOfBoth =
    (L : Lineage) (t u : Ty) (s : Shape) → IsLineage L → IsShape true L s
    → belongs true L (any_of L t u) s ≡ (belongs true L t s || belongs true L u s)

-- ---- what is left of a type

-- a type in normal form without the subtypes of another is in normal form
abbrev pub WhatIsLeftIsNormal : Type 0
WhatIsLeftIsNormal = (L : Lineage) (t u : Ty) → IsNormal L t → IsNormal L (without_of L t u)

-- the parts that are left are exactly those that are no subtypes of the other type, by their shapes; of `T.untyped` all is left
abbrev pub SubtypesAreLeftOut : Type 0
SubtypesAreLeftOut =
    (L : Lineage) (t u : Ty) → IsLineage L → IsNormal L t
    → (is_untyped t ≡ true → without_of L t u ≡ t)
    × (is_untyped t ≡ false → (p : Ty) → Among p (parts_of (without_of L t u)) ↔ (Among p (parts_of t) × (IsSubtype L p u → ⊥)))

-- each shape that is left was there, and those that aren't in the other type are all left, where `T.untyped` has no shape in the first type
-- and every shape in the other
abbrev pub OtherShapesAreLeft : Type 0
OtherShapesAreLeft =
    (L : Lineage) (t u : Ty) (s : Shape) → IsLineage L → IsShape false L s
    → (IsTrue (belongs false L (without_of L t u) s) → IsTrue (belongs false L t s))
    × (IsTrue (belongs false L t s) → belongs true L u s ≡ false → IsTrue (belongs false L (without_of L t u) s))

-- ---- one type for each set of shapes

-- two types in normal form to which the same shapes belong are one
abbrev pub NormalFormsAreUnique : Type 0
NormalFormsAreUnique =
    (L : Lineage) (t u : Ty) → IsLineage L → HasNoCircles L → TextsTell L → IsNormal L t → IsNormal L u
    → ((s : Shape) → IsShape true L s → belongs true L t s ≡ belongs true L u s) → t ≡ u

-- `T.any` of types in normal form doesn't depend on their order, nor on brackets, and adds nothing to a type where both are that type
abbrev pub UnionsDoNotDependOnOrder : Type 0
UnionsDoNotDependOnOrder =
    (L : Lineage) (t u v : Ty) → IsLineage L → HasNoCircles L → TextsTell L → IsNormal L t → IsNormal L u → IsNormal L v
    → (any_of L t u ≡ any_of L u t) × (any_of L (any_of L t u) v ≡ any_of L t (any_of L u v)) × (any_of L t t ≡ t)

-- Nor does `T.all` of types without `T.untyped` depend on their order; it adds nothing to a type where both are that type, and each of
-- `T.any` and `T.all` takes the other one back.
abbrev pub IntersectionsDoNotDependOnOrder : Type 0
IntersectionsDoNotDependOnOrder =
    (L : Lineage) (t u : Ty) → IsLineage L → HasNoCircles L → TextsTell L → IsNormal L t → IsNormal L u → IsTrue (is_typed t) → IsTrue (is_typed u)
    → (all_of L t u ≡ all_of L u t) × (all_of L t t ≡ t) × (any_of L t (all_of L t u) ≡ t) × (all_of L t (any_of L t u) ≡ t)

-- ---- shown texts

-- two types in normal form that are shown alike are one, where the names of classes and modules are plain
abbrev pub ShownTextsTellTypes : Type 0
ShownTextsTellTypes =
    (L : Lineage) (t u : Ty) → IsLineage L → HasPlainNames L → IsNormal L t → IsNormal L u → shown t ≡ shown u → t ≡ u

-- plain names are enough for parts to be told apart by their texts
abbrev pub PlainNamesTellParts : Type 0
PlainNamesTellParts = (L : Lineage) → IsLineage L → HasPlainNames L → TextsTell L

-- a class that is named `T::Boolean` would be shown as `T.any` of `FalseClass` and `TrueClass` is
abbrev pub BooleanIsShownAlike : Type 0
BooleanIsShownAlike = shown (ty.Class BOOLEAN) ≡ shown (ty.Any (ty.Class FALSE ∷ ty.Class TRUE ∷ []))

-- ---- intersections

-- `T.all` of two types in normal form, and what a value is where it is known to be of both, are in normal form
abbrev pub IntersectionsAreNormal : Type 0
IntersectionsAreNormal = (L : Lineage) (t u : Ty) → IsLineage L → IsNormal L t → IsNormal L u → IsNormal L (all_of L t u) × IsNormal L (meet_of L t u)

-- `T.all` of two types lacks no shape that belongs to both, and where `T.untyped` stands in neither, it has exactly these
abbrev pub IntersectionsHaveTheShapesOfBoth : Type 0
IntersectionsHaveTheShapesOfBoth =
    (L : Lineage) (t u : Ty) (s : Shape) → IsLineage L → IsNormal L t → IsNormal L u → IsShape true L s
    → (IsTrue (belongs true L t s && belongs true L u s) → IsTrue (belongs true L (all_of L t u) s))
    × (IsTrue (is_typed t && is_typed u) → belongs true L (all_of L t u) s ≡ (belongs true L t s && belongs true L u s))

-- what a value is where it is known to be of two types: the same, but that `T.untyped` beside another type adds nothing
abbrev pub MeetsHaveTheShapesOfBoth : Type 0
MeetsHaveTheShapesOfBoth =
    (L : Lineage) (t u : Ty) (s : Shape) → IsLineage L → IsNormal L t → IsNormal L u → IsShape true L s
    → (IsTrue (belongs true L t s && belongs true L u s) → IsTrue (belongs true L (meet_of L t u) s))
    × (IsTrue (one_untyped t u || (is_typed t && is_typed u)) → belongs true L (meet_of L t u) s ≡ (belongs true L t s && belongs true L u s))

-- ---- arrays and hashes

-- the array of a type in normal form, and the hash of two, are in normal form
abbrev pub ArraysAndHashesAreNormal : Type 0
ArraysAndHashesAreNormal =
    (L : Lineage) (t u : Ty) → IsLineage L → IsNormal L t → IsNormal L u → IsNormal L (array_of L t) × IsNormal L (hash_of L t u)

-- They lack no shape, though they are cut at eight levels, and hold the types as these are where no array or hash of them stands inside
-- seven others.
abbrev pub ArraysAndHashesKeepShapes : Type 0
ArraysAndHashesKeepShapes =
    (L : Lineage) (t u : Ty) (s : Shape) → IsLineage L → IsNormal L t → IsNormal L u → IsShape true L s
    → (IsTrue (belongs true L (ty.Arr t) s) → IsTrue (belongs true L (array_of L t) s))
    × (IsTrue (belongs true L (ty.Hsh t u) s) → IsTrue (belongs true L (hash_of L t u) s))
    × (IsTrue (is_shallow t 7) → array_of L t ≡ ty.Arr t)
    × (IsTrue (is_shallow t 7 && is_shallow u 7) → hash_of L t u ≡ ty.Hsh t u)
