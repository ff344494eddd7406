-- What belongs to a type. The comparison of types knows no shapes: it goes by parts.
use Rattle.std.specs.Prelude.{◌≡◌, ◌⊎◌, ℕ, Bool, true, false, List, [], Option, Some, None, codes, bytes_eq, ◌&&◌, ◌||◌, not, map, IsTrue, ◌↔◌}
use Rattle.std.specs.List.{list_any, list_all}
use Rattle.srb_terms.specs.NameSets.{has_name}
use Rattle.srb_terms.specs.declared.fact.Kind.{Kind}
use Rattle.srb_terms.specs.declared.ty.Ty.{Ty, fold-Ty, out-Ty, para-Ty}
use Rattle.srb_terms.specs.declared.ty.Ty.TheOpen.{Ty-F}
use Rattle.srb_shapes.specs.Lineages.{Lineage, Has, IsLineage, is_body, is_class, object_lin}
use Rattle.srb_shapes.specs.Comparing.{is_sub_of, lies_in}

-- ---- shapes

mutual
  -- an instance, by the classes and modules that it is one of; a class object, by the name of the class or module; an array, by the
  -- shapes of its elements; a hash, by those of its keys and those of its values; and what belongs to `T.untyped` alone
  pub data Shape : Type 0 where
    instance_of : List (List ℕ) → Shape
    object_of : List ℕ → Shape
    array_of : Shapes → Shape
    hash_of : Shapes → Shapes → Shape
    unknown : Shape

  -- a finite set of shapes
  pub data Shapes : Type 0 where
    none : Shapes
    more : Shape → Shapes → Shapes

-- whether each shape of a set passes the test
abbrev pub each_shape : (Shape → Bool) → Shapes → Bool
each_shape test none = true
each_shape test (more s set) = test s && each_shape test set

-- ---- the shapes that there are

-- a set of classes and modules that holds all that they inherit and include, and whose classes form a chain of superclasses
pub record IsInstance (L : Lineage) (names : List (List ℕ)) : Type 0 where
  pub known : (c : List ℕ) → Has names c → IsTrue (is_body (L.kind c))
  pub closed : (c a : List ℕ) → Has names c → Has (L.lin c) a → Has names a
  pub chain : (a b : List ℕ) → Has names a → Has names b → IsTrue (is_class (L.kind a)) → IsTrue (is_class (L.kind b))
      → Has (L.lin a) b ⊎ Has (L.lin b) a

abbrev mutual
  -- a shape over the names of a project; the unknown one counts where `extra` is true
  pub IsShape : Bool → Lineage → Shape → Type 0
  IsShape extra L (instance_of names) = IsInstance L names
  IsShape extra L (object_of d) = IsTrue (is_body (L.kind d))
  IsShape extra L (array_of elements) = AreShapes extra L elements
  IsShape extra L (hash_of keys values) = AreShapes extra L keys × AreShapes extra L values
  IsShape extra L unknown = IsTrue extra

  pub AreShapes : Bool → Lineage → Shapes → Type 0
  AreShapes extra L none = Unit {0}
  AreShapes extra L (more s set) = IsShape extra L s × AreShapes extra L set

-- ---- the shapes of a type

-- a class or module; a class object is an instance of `Class`, that of a module of `Module`
abbrev pub is_in_class : Lineage → List ℕ → Shape → Bool
is_in_class L c (instance_of names) = has_name c names
is_in_class L c (object_of d) = has_name c (object_lin L (L.kind d))
is_in_class L c (array_of elements) = has_name c (L.lin (codes "Array"))
is_in_class L c (hash_of keys values) = has_name c (L.lin (codes "Hash"))
is_in_class L c unknown = false

-- a class object is one of each class that its class inherits from
abbrev pub is_in_meta : Lineage → List ℕ → Shape → Bool
is_in_meta L c (object_of d) = bytes_eq d c || (is_class (L.kind d) && (is_class (L.kind c) && has_name c (L.lin d)))
is_in_meta L c _ = false

abbrev pub is_in_array : (Shape → Bool) → Shape → Bool
is_in_array f (array_of elements) = each_shape f elements
is_in_array f _ = false

abbrev pub is_in_hash : (Shape → Bool) → (Shape → Bool) → Shape → Bool
is_in_hash f g (hash_of keys values) = each_shape f keys && each_shape g values
is_in_hash f g _ = false

-- whether a shape belongs to a type, where `f` tells it of the types in it; each shape belongs to `T.untyped`, or none, by `untyped`
abbrev pub belongs_at : {X : Type 0} → (X → Shape → Bool) → Bool → Lineage → Ty-F X → Shape → Bool
belongs_at f untyped L Ty-F.Untyped s = untyped
belongs_at f untyped L Ty-F.Never s = false
belongs_at f untyped L (Ty-F.Class c) s = is_in_class L c s
belongs_at f untyped L (Ty-F.Meta c) s = is_in_meta L c s
belongs_at f untyped L (Ty-F.Arr e) s = is_in_array (f e) s
belongs_at f untyped L (Ty-F.Hsh k v) s = is_in_hash (f k) (f v) s
belongs_at f untyped L (Ty-F.Any parts) s = list_any (λ t. f t s) parts
belongs_at f untyped L (Ty-F.All members) s = list_all (λ t. f t s) members

unfoldable pub belongs : Bool → Lineage → Ty → Shape → Bool
belongs untyped L = fold-Ty (Shape → Bool) (belongs_at (λ f. f) untyped L)

-- ---- inclusion

-- each shape of the first type is one of the second, where `T.untyped` has no shape in the first and every shape in the second
abbrev pub IsSubtype : Lineage → Ty → Ty → Type 0
IsSubtype L t u = (s : Shape) → IsShape false L s → IsTrue (belongs false L t s) → IsTrue (belongs true L u s)

-- each shape of the first type is one of the second, where every shape belongs to `T.untyped`, and the unknown one to it alone
abbrev pub LiesIn : Lineage → Ty → Ty → Type 0
LiesIn L t u = (s : Shape) → IsShape true L s → IsTrue (belongs true L t s) → IsTrue (belongs true L u s)

-- ---- types that have their shapes: what is used of a normal form

-- the name of a class or module
abbrev pub name_at : {X : Type 0} → Ty-F X → Option (List ℕ)
name_at (Ty-F.Class c) = Some c
name_at _ = None

abbrev pub name_of : Ty → Option (List ℕ)
name_of t = name_at (out-Ty t)

-- whether two members of an intersection are classes or modules, of which one inherits from the other where both are classes
abbrev pub go_together : Lineage → Option (List ℕ) → Option (List ℕ) → Bool
go_together L (Some c) (Some d) =
    is_body (L.kind c) && (is_body (L.kind d)
    && (not (is_class (L.kind c) && is_class (L.kind d)) || (has_name d (L.lin c) || has_name c (L.lin d))))
go_together L _ _ = false

abbrev pub all_together : Lineage → List (Option (List ℕ)) → Bool
all_together L names = list_all (λ c. list_all (go_together L c) names) names

-- whether the names in a type are those of classes and modules and the members of its intersections go together, where `f` tells it of
-- the types in it, which are `it`
abbrev pub fits_at : {X : Type 0} → (X → Ty) → (X → Bool) → Lineage → Ty-F X → Bool
fits_at it f L Ty-F.Untyped = true
fits_at it f L Ty-F.Never = true
fits_at it f L (Ty-F.Class c) = is_body (L.kind c)
fits_at it f L (Ty-F.Meta c) = is_body (L.kind c)
fits_at it f L (Ty-F.Arr e) = f e
fits_at it f L (Ty-F.Hsh k v) = f k && f v
fits_at it f L (Ty-F.Any parts) = list_all f parts
fits_at it f L (Ty-F.All members) = all_together L (map (λ t. name_of (it t)) members)

unfoldable pub fits : Lineage → Ty → Bool
fits L = para-Ty Bool (fits_at (λ x. x.0) (λ x. x.1) L)

-- ---- the laws

-- a type is a subtype by its parts exactly where it is one by its shapes
abbrev pub SubtypesAreExact : Type 0
SubtypesAreExact =
    (L : Lineage) (t u : Ty) → IsLineage L → IsTrue (fits L t) → IsTrue (is_sub_of L t u) ↔ IsSubtype L t u

-- a part lies in another by its parts exactly where it does by its shapes
abbrev pub InclusionIsExact : Type 0
InclusionIsExact =
    (L : Lineage) (t u : Ty) → IsLineage L → IsTrue (fits L t) → IsTrue (lies_in L t u) ↔ LiesIn L t u
