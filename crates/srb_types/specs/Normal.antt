-- Unions, intersections, arrays and hashes of types, in normal form.
use Rattle.std.specs.Prelude.{ℕ, ◌-◌, Bool, true, false, not, ◌&&◌, ◌||◌, List, [], ◌∷◌, map, nat_eq, if◌then◌else◌, Option, Some, None}
use Rattle.std.specs.List.{filter, list_all, list_any}
use Rattle.srb_terms.specs.NameSets.{has_name}
use Rattle.srb_terms.specs.declared.fact.Kind.{Kind}
use Rattle.srb_terms.specs.declared.fact.Kind.TheVariants as kind
use Rattle.srb_terms.specs.declared.ty.Ty.{Ty, out-Ty, fold-Ty, para-Ty}
use Rattle.srb_terms.specs.declared.ty.Ty.TheOpen.{Ty-F}
use Rattle.srb_terms.specs.declared.ty.Ty.TheVariants as ty
use Rattle.srb_shapes.specs.Comparing.{is_sub_of, lies_in}
use Rattle.srb_shapes.specs.Lineages.{Lineage}
use Rattle.srb_shapes.specs.Parts.{of_parts, parts_of}
use Rattle.srb_types.specs.Order.{placed}
use Rattle.srb_types.specs.Shown.{shown}

abbrev pub is_untyped_at : {X : Type 0} → Ty-F X → Bool
is_untyped_at Ty-F.Untyped = true
is_untyped_at _ = false

abbrev pub is_untyped : Ty → Bool
is_untyped t = is_untyped_at (out-Ty t)

-- whether one of two types is `T.untyped`
abbrev pub one_untyped : Ty → Ty → Bool
one_untyped a b = is_untyped a || is_untyped b

-- ---- unions

-- The parts with one more, at its place by the text. It is dropped where it lies in one of them, and those that lie in it are dropped.
unfoldable pub with_part : Lineage → List Ty → Ty → List Ty
with_part L parts p =
    if list_any (λ q. lies_in L p q) parts then parts else placed shown p (filter (λ q. not (lies_in L q p)) parts)

abbrev pub with_parts : Lineage → List Ty → List Ty → List Ty
with_parts L parts [] = parts
with_parts L parts (p ∷ more) = with_parts L (with_part L parts p) more

-- `T.any` of two types
unfoldable pub any_of : Lineage → Ty → Ty → Ty
any_of L a b = if one_untyped a b then ty.Untyped else of_parts (with_parts L (parts_of a) (parts_of b))

-- `T.any` of a type and of all types of a list
abbrev pub any_after : Lineage → Ty → List Ty → Ty
any_after L so_far [] = so_far
any_after L so_far (t ∷ ts) = any_after L (any_of L so_far t) ts

-- `T.any` of a list of types, `T.noreturn` where it is empty
abbrev pub any_list : Lineage → List Ty → Ty
any_list L ts = any_after L ty.Never ts

-- ---- intersections of classes and modules

abbrev pub class_name_at : {X : Type 0} → Ty-F X → Option (List ℕ)
class_name_at (Ty-F.Class name) = Some name
class_name_at _ = None

-- a name, where there is one, in front of others
abbrev pub name_before : Option (List ℕ) → List (List ℕ) → List (List ℕ)
name_before None names = names
name_before (Some name) names = name ∷ names

-- the names of the classes and modules of a list
abbrev pub class_names : List Ty → List (List ℕ)
class_names [] = []
class_names (t ∷ ts) = name_before (class_name_at (out-Ty t)) (class_names ts)

-- the names of a class, a module or an intersection of these; any other part has none
abbrev pub names_at : Ty-F Ty → Option (List (List ℕ))
names_at (Ty-F.Class name) = Some (name ∷ [])
names_at (Ty-F.All members) = Some (class_names members)
names_at _ = None

unfoldable pub names_of : Ty → Option (List (List ℕ))
names_of t = names_at (out-Ty t)

-- whether the second name stands in the linearization of the first one
abbrev pub is_under : Lineage → List ℕ → List ℕ → Bool
is_under L c d = has_name d (L.lin c)

-- The names with one more, at its place. It is dropped where it stands in the linearization of one of them, and those that stand in its
-- own are dropped.
unfoldable pub with_name : Lineage → List (List ℕ) → List ℕ → List (List ℕ)
with_name L names c =
    if list_any (λ d. is_under L d c) names then names else placed (λ d. d) c (filter (λ d. not (is_under L c d)) names)

abbrev pub with_names : Lineage → List (List ℕ) → List (List ℕ) → List (List ℕ)
with_names L names [] = names
with_names L names (c ∷ more) = with_names L (with_name L names c) more

abbrev pub is_class_kind : Option Kind → Bool
is_class_kind (Some kind.Class) = true
is_class_kind _ = false

abbrev pub is_class : Lineage → List ℕ → Bool
is_class L c = is_class_kind (L.kind c)

-- whether two classes stand among the names
abbrev pub has_two_classes : Lineage → List (List ℕ) → Bool
has_two_classes L [] = false
has_two_classes L (c ∷ names) = (is_class L c && list_any (is_class L) names) || has_two_classes L names

-- the class or module of one name, and the intersection of several
abbrev pub of_names : List (List ℕ) → Ty
of_names (c ∷ []) = ty.Class c
of_names names = ty.All (map (λ c. ty.Class c) names)

-- The names of both, without those that stand in the linearization of another. No shape belongs to two classes.
unfoldable pub meet_names : Lineage → List (List ℕ) → List (List ℕ) → Option Ty
meet_names L names more =
    if has_two_classes L (with_names L names more) then None else Some (of_names (with_names L names more))

-- ---- intersections

-- the part that lies in the other one
unfoldable pub inner_part : Lineage → Ty → Ty → Option Ty
inner_part L p q = if lies_in L p q then Some p else (if lies_in L q p then Some q else None)

abbrev pub meet_named : Lineage → Ty → Ty → Option (List (List ℕ)) → Option (List (List ℕ)) → Option Ty
meet_named L p q (Some names) (Some more) = meet_names L names more
meet_named L p q _ _ = inner_part L p q

-- the meet of a part that is no array and no hash with another part
unfoldable pub meet_plain : Lineage → Ty → Ty → Option Ty
meet_plain L p q = meet_named L p q (names_of p) (names_of q)

-- parts with one more, where there is one
abbrev pub with_met : Lineage → List Ty → Option Ty → List Ty
with_met L parts None = parts
with_met L parts (Some p) = with_part L parts p

-- parts with the meets of one part and each of others
abbrev pub with_meets : Lineage → (Ty → Option Ty) → List Ty → List Ty → List Ty
with_meets L meet [] parts = parts
with_meets L meet (q ∷ others) parts = with_meets L meet others (with_met L parts (meet q))

-- what a type adds to parts by its meets with others
abbrev pub Meets : Type 0
Meets = List Ty → List Ty → List Ty

-- `T.all` of two types, of which the first meets parts so
abbrev pub all_by : Ty → Meets → Ty → Ty
all_by a meets b = if one_untyped a b then ty.Untyped else of_parts (meets (parts_of b) [])

-- an array meets an array in that of the meet of their elements
abbrev pub meet_array_at : Lineage → Ty → Meets → Ty → Ty-F Ty → Option Ty
meet_array_at L e meets q (Ty-F.Arr f) = Some (ty.Arr (all_by e meets f))
meet_array_at L e meets q _ = inner_part L (ty.Arr e) q

unfoldable pub meet_array : Lineage → Ty → Meets → Ty → Option Ty
meet_array L e meets q = meet_array_at L e meets q (out-Ty q)

-- hashes likewise
abbrev pub meet_hash_at : Lineage → Ty → Meets → Ty → Meets → Ty → Ty-F Ty → Option Ty
meet_hash_at L k of_key v of_value q (Ty-F.Hsh l w) = Some (ty.Hsh (all_by k of_key l) (all_by v of_value w))
meet_hash_at L k of_key v of_value q _ = inner_part L (ty.Hsh k v) q

unfoldable pub meet_hash : Lineage → Ty → Meets → Ty → Meets → Ty → Option Ty
meet_hash L k of_key v of_value q = meet_hash_at L k of_key v of_value q (out-Ty q)

-- each part in turn
abbrev pub meets_each : {X : Type 0} → (X → Meets) → List X → Meets
meets_each f [] others parts = parts
meets_each f (p ∷ ps) others parts = meets_each f ps others (f p others parts)

-- One part and another: an array, a hash, or neither. `it` is the type inside, and `f` what it adds by its meets. A union is no part.
abbrev pub meet_at : {X : Type 0} → (X → Ty) → (X → Meets) → Lineage → Ty-F X → Ty → Option Ty
meet_at it f L Ty-F.Untyped q = meet_plain L ty.Untyped q
meet_at it f L Ty-F.Never q = None
meet_at it f L (Ty-F.Class name) q = meet_plain L (ty.Class name) q
meet_at it f L (Ty-F.Meta name) q = meet_plain L (ty.Meta name) q
meet_at it f L (Ty-F.Arr e) q = meet_array L (it e) (f e) q
meet_at it f L (Ty-F.Hsh k v) q = meet_hash L (it k) (f k) (it v) (f v) q
meet_at it f L (Ty-F.Any ps) q = None
meet_at it f L (Ty-F.All ms) q = meet_plain L (ty.All (map it ms)) q

-- a union adds what its parts do, and a part its meets with each other part
abbrev pub meets_at : {X : Type 0} → (X → Ty) → (X → Meets) → Lineage → Ty-F X → Meets
meets_at it f L Ty-F.Never others parts = parts
meets_at it f L (Ty-F.Any ps) others parts = meets_each f ps others parts
meets_at it f L part others parts = with_meets L (meet_at it f L part) others parts

unfoldable pub meets_of : Lineage → Ty → Meets
meets_of L = para-Ty Meets (meets_at (λ t. t.0) (λ t. t.1) L)

-- the meet of two parts
unfoldable pub meet_parts : Lineage → Ty → Ty → Option Ty
meet_parts L p q = meet_at (λ t. t) (meets_of L) L (out-Ty p) q

-- `T.all` of two types
abbrev pub all_of : Lineage → Ty → Ty → Ty
all_of L a b = all_by a (meets_of L a) b

-- what a value of the first type is where it is also known to be of the second
unfoldable pub meet_of : Lineage → Ty → Ty → Ty
meet_of L a b = if is_untyped a then b else (if is_untyped b then a else all_of L a b)

-- the first type without the parts that are subtypes of the second
unfoldable pub without_of : Lineage → Ty → Ty → Ty
without_of L a b = if is_untyped a then a else of_parts (filter (λ p. not (is_sub_of L p b)) (parts_of a))

-- ---- arrays and hashes

-- an argument of an array or hash that may stand inside fewer than so many others
abbrev pub is_shallow_argument : (ℕ → Bool) → ℕ → Bool
is_shallow_argument f n = not (nat_eq n 0) && f (n - 1)

abbrev pub is_shallow_at : Ty-F (ℕ → Bool) → ℕ → Bool
is_shallow_at (Ty-F.Arr e) n = is_shallow_argument e n
is_shallow_at (Ty-F.Hsh k v) n = is_shallow_argument k n && is_shallow_argument v n
is_shallow_at (Ty-F.Any ps) n = list_all (λ (p : ℕ → Bool). p n) ps
is_shallow_at _ n = true

-- whether each array or hash of a type stands inside fewer than so many others of it
unfoldable pub is_shallow : Ty → ℕ → Bool
is_shallow = fold-Ty (ℕ → Bool) (λ t. is_shallow_at t)

-- an argument of an array or hash that stands inside so many others
abbrev pub cut_argument : (ℕ → Ty) → ℕ → Ty
cut_argument f n = if nat_eq n 0 then ty.Untyped else f (n - 1)

-- parts with some more, each of them cut: it may then lie in another
abbrev pub cut_each : Lineage → List (ℕ → Ty) → ℕ → List Ty → List Ty
cut_each L [] n parts = parts
cut_each L (p ∷ ps) n parts = cut_each L ps n (with_part L parts (p n))

abbrev pub cut_at : Lineage → Ty-F (ℕ → Ty) → ℕ → Ty
cut_at L Ty-F.Untyped n = ty.Untyped
cut_at L Ty-F.Never n = ty.Never
cut_at L (Ty-F.Class name) n = ty.Class name
cut_at L (Ty-F.Meta name) n = ty.Meta name
cut_at L (Ty-F.Arr e) n = ty.Arr (cut_argument e n)
cut_at L (Ty-F.Hsh k v) n = ty.Hsh (cut_argument k n) (cut_argument v n)
cut_at L (Ty-F.Any ps) n = of_parts (cut_each L ps n [])
cut_at L (Ty-F.All ms) n = ty.All (map (λ (m : ℕ → Ty). m n) ms)

-- a type whose arrays and hashes inside so many others have `T.untyped` for arguments
unfoldable pub cut_anew : Lineage → Ty → ℕ → Ty
cut_anew L = fold-Ty (ℕ → Ty) (λ t. cut_at L t)

-- a type that isn't so deep stays as it is
unfoldable pub cut : Lineage → ℕ → Ty → Ty
cut L n t = if is_shallow t n then t else cut_anew L t n

-- An array or hash may stand inside seven others with arguments of its own; inside eight it has `T.untyped`.
unfoldable pub array_of : Lineage → Ty → Ty
array_of L e = ty.Arr (cut L 7 e)

unfoldable pub hash_of : Lineage → Ty → Ty → Ty
hash_of L k v = ty.Hsh (cut L 7 k) (cut L 7 v)
