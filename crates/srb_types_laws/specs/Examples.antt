-- A small table of classes, of which the laws can be used, and types over it.
use Rattle.std.specs.Prelude.{◌≡◌, ℕ, true, false, List, [], ◌∷◌, Some, None, codes, bytes_eq, if◌then◌else◌}
use Rattle.srb_terms.specs.NameSets.{has_name}
use Rattle.srb_terms.specs.declared.fact.Kind.TheVariants as kind
use Rattle.srb_terms.specs.declared.ty.Ty.{Ty}
use Rattle.srb_terms.specs.declared.ty.Ty.TheVariants as ty
use Rattle.srb_shapes.specs.Lineages.{Lineage, IsLineage}
use Rattle.srb_types.specs.Normal.{any_of}
use Rattle.srb_types.specs.Shown.{shown}
use Rattle.srb_types_laws.specs.NormalForms.{in_order, is_arranged, is_plain, HasNoCircles, HasPlainNames, IsNormal}

abbrev pub OBJECT : List ℕ
OBJECT = codes "Object"

abbrev pub INTEGER : List ℕ
INTEGER = codes "Integer"

abbrev pub STRING : List ℕ
STRING = codes "String"

abbrev pub NAMES : List (List ℕ)
NAMES = OBJECT ∷ INTEGER ∷ STRING ∷ []

-- `Object`, and `Integer` and `String` that inherit from it
abbrev pub TABLE : Lineage
TABLE = record {
  kind = λ c. if has_name c NAMES then Some kind.Class else None;
  lin = λ c. if has_name c NAMES then c ∷ (if bytes_eq c OBJECT then [] else OBJECT ∷ []) else [];
}

-- `T.any(Integer, String)`, and its parts the other way round
abbrev pub UNION : Ty
UNION = ty.Any (ty.Class INTEGER ∷ ty.Class STRING ∷ [])

abbrev pub TURNED : Ty
TURNED = ty.Any (ty.Class STRING ∷ ty.Class INTEGER ∷ [])

-- what the laws ask of names holds of the table
abbrev pub TableIsAsAsked : Type 0
TableIsAsAsked = IsLineage TABLE × HasNoCircles TABLE × HasPlainNames TABLE

-- a union is in normal form where its parts stand in order, and it is what `T.any` gives in either order
abbrev pub UnionIsNormal : Type 0
UnionIsNormal =
    IsNormal TABLE UNION × (is_arranged TABLE TURNED ≡ false) × (any_of TABLE (ty.Class INTEGER) (ty.Class STRING) ≡ UNION)
    × (any_of TABLE (ty.Class STRING) (ty.Class INTEGER) ≡ UNION)

-- names and texts
abbrev pub TextsAreTested : Type 0
TextsAreTested =
    (is_plain (codes "Foo::Bar2") ≡ true) × (is_plain (codes "T.untyped") ≡ false) × (is_plain (codes "T::Array[Foo]") ≡ false)
    × (in_order (λ (t : List ℕ). t) (codes "Foo" ∷ codes "Foo" ∷ codes "T.class_of(Foo)" ∷ []) ≡ true)
    × (in_order (λ (t : List ℕ). t) (codes "T.class_of(Foo)" ∷ codes "Foo" ∷ []) ≡ false)
    × (shown UNION ≡ codes "T.any(Integer, String)")
