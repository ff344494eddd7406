-- Whether a type lies within another, by a comparison of their parts.
use Rattle.std.specs.Prelude.{ℕ, Bool, true, false, List, [], Option, Some, None, codes, bytes_eq, if◌then◌else◌, ◌&&◌, ◌||◌}
use Rattle.std.specs.List.{list_any, list_all}
use Rattle.srb_terms.specs.NameSets.{has_name}
use Rattle.srb_terms.specs.declared.fact.Kind.{Kind}
use Rattle.srb_terms.specs.declared.fact.Kind.TheVariants as kind
use Rattle.srb_terms.specs.declared.ty.Ty.{Ty, fold-Ty, out-Ty, para-Ty}
use Rattle.srb_terms.specs.declared.ty.Ty.TheVariants as ty
use Rattle.srb_terms.specs.declared.ty.Ty.TheOpen.{Ty-F}
use Rattle.srb_shapes.specs.Lineages.{Lineage, is_class, object_lin}

-- ---- the other type, gone through for a part: its unions and intersections are taken apart, and `test` compares the part with a
-- class or module, a class object, an array or a hash

-- everything lies within `T.untyped` and nothing within `T.noreturn`; a part lies within a union where it does within one of its
-- parts, and within an intersection where it does within each of its members
abbrev pub holds_at : {X : Type 0} → (X → Ty) → (X → Bool) → (Ty-F Ty → Bool) → Ty-F X → Bool
holds_at it f test Ty-F.Untyped = true
holds_at it f test Ty-F.Never = false
holds_at it f test (Ty-F.Class d) = test (Ty-F.Class d)
holds_at it f test (Ty-F.Meta d) = test (Ty-F.Meta d)
holds_at it f test (Ty-F.Arr e) = test (Ty-F.Arr (it e))
holds_at it f test (Ty-F.Hsh k v) = test (Ty-F.Hsh (it k) (it v))
holds_at it f test (Ty-F.Any parts) = list_any f parts
holds_at it f test (Ty-F.All members) = list_all f members

unfoldable pub holds : (Ty-F Ty → Bool) → Ty → Bool
holds test = para-Ty Bool (holds_at (λ x. x.0) (λ x. x.1) test)

-- ---- one part against one of the other type

-- no part of the other type is like it
abbrev pub is_nothing : Ty-F Ty → Bool
is_nothing _ = false

-- what has this linearization, against a class or module
abbrev pub is_below : List (List ℕ) → Ty-F Ty → Bool
is_below names (Ty-F.Class d) = has_name d names
is_below names _ = false

-- the class object of d, against that of c
abbrev pub is_meta_below : Lineage → List ℕ → List ℕ → Bool
is_meta_below L d c = bytes_eq d c || (is_class (L.kind d) && (is_class (L.kind c) && has_name c (L.lin d)))

-- the class object of d: among the class objects of what d inherits, and an instance of `Class` or of `Module`
abbrev pub is_object : Lineage → List ℕ → Ty-F Ty → Bool
is_object L d (Ty-F.Meta c) = is_meta_below L d c
is_object L d (Ty-F.Class c) = has_name c (object_lin L (L.kind d))
is_object L d _ = false

-- an array whose elements are tested by `f`
abbrev pub is_array : Lineage → (Ty → Bool) → Ty-F Ty → Bool
is_array L f (Ty-F.Arr e) = f e
is_array L f (Ty-F.Class c) = has_name c (L.lin (codes "Array"))
is_array L f _ = false

-- a hash whose keys and values are tested by `f` and `g`
abbrev pub is_hash : Lineage → (Ty → Bool) → (Ty → Bool) → Ty-F Ty → Bool
is_hash L f g (Ty-F.Hsh k v) = f k && g v
is_hash L f g (Ty-F.Class c) = has_name c (L.lin (codes "Hash"))
is_hash L f g _ = false

-- an intersection whose members are tested by `f`
abbrev pub is_all_below : {X : Type 0} → (X → Ty → Bool) → List X → Ty-F Ty → Bool
is_all_below f members (Ty-F.Class d) = list_any (λ t. f t (ty.Class d)) members
is_all_below f members _ = false

-- a part that is no union, where `f` says what the types in it are within
abbrev pub test_of : {X : Type 0} → (X → Ty → Bool) → Lineage → Ty-F X → Ty-F Ty → Bool
test_of f L (Ty-F.Class c) = is_below (L.lin c)
test_of f L (Ty-F.Meta d) = is_object L d
test_of f L (Ty-F.Arr e) = is_array L (f e)
test_of f L (Ty-F.Hsh k v) = is_hash L (f k) (f v)
test_of f L (Ty-F.All members) = is_all_below f members
test_of f L _ = is_nothing

-- ---- types

-- what a type is within, where `f` says so of the types in it. `T.untyped` counts as no type at all, but where `extra` is true it has
-- something that `T.untyped` alone has.
abbrev pub within_at : {X : Type 0} → (X → Ty → Bool) → Bool → Lineage → Ty-F X → Ty → Bool
within_at f extra L Ty-F.Untyped u = if extra then holds is_nothing u else true
within_at f extra L Ty-F.Never u = true
within_at f extra L (Ty-F.Any parts) u = list_all (λ t. f t u) parts
within_at f extra L part u = holds (test_of f L part) u

unfoldable pub within : Bool → Lineage → Ty → Ty → Bool
within extra L = fold-Ty (Ty → Bool) (within_at (λ f. f) extra L)

-- how a type that is no union compares with one part of another type
abbrev pub part_test : Bool → Lineage → Ty → Ty-F Ty → Bool
part_test extra L t = test_of (within extra L) L (out-Ty t)

-- ---- its two readings

-- whether a type is a subtype of another
abbrev pub is_sub_of : Lineage → Ty → Ty → Bool
is_sub_of = within false

-- whether all that belongs to a part belongs to another one, where `T.untyped` has something of its own
abbrev pub lies_in : Lineage → Ty → Ty → Bool
lies_in = within true
