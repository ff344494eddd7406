-- Types in normal form: what is asked of a type beside that its names are known.
use Rattle.std.specs.Prelude.{◌≡◌, ◌⊎◌, ℕ, codes, bytes_eq, ◌-◌, Bool, true, false, not, ◌&&◌, List, [], ◌∷◌, map, nat_eq, IsTrue, if◌then◌else◌}
use Rattle.std.specs.List.{list_all, list_any}
use Rattle.srb_terms.specs.declared.ty.Ty.{Ty, out-Ty, fold-Ty, para-Ty}
use Rattle.srb_terms.specs.declared.ty.Ty.TheOpen.{Ty-F}
use Rattle.srb_shapes.specs.Comparing.{lies_in}
use Rattle.srb_shapes.specs.Lineages.{Lineage, Has, is_body}
use Rattle.srb_shapes.specs.Shapes.{fits}
use Rattle.srb_types.specs.Normal.{is_untyped}
use Rattle.srb_types.specs.Order.{is_before}
use Rattle.srb_types.specs.Shown.{BOOLEAN, shown}

-- ---- lists

-- one of the elements
abbrev pub Among : {A : Type 0} → A → List A → Type 0
Among x [] = ⊥
Among x (y ∷ ys) = (y ≡ x) ⊎ Among x ys

-- whether the elements stand in the order of their texts
abbrev pub in_order : {A : Type 0} → (A → List ℕ) → List A → Bool
in_order text [] = true
in_order text (x ∷ xs) = list_all (λ y. not (is_before (text y) (text x))) xs && in_order text xs

-- whether neither of two passes the test with the other
abbrev pub is_apart : {A : Type 0} → (A → A → Bool) → A → A → Bool
is_apart test x y = not (test x y) && not (test y x)

-- whether no two elements pass the test
abbrev pub all_apart : {A : Type 0} → (A → A → Bool) → List A → Bool
all_apart test [] = true
all_apart test (x ∷ xs) = list_all (is_apart test x) xs && all_apart test xs

-- whether there are two or more
abbrev pub has_several : {A : Type 0} → List A → Bool
has_several (x ∷ y ∷ xs) = true
has_several _ = false

-- ---- parts

-- a part is a class or module, a class object, an array, a hash or an intersection
abbrev pub is_part_at : {X : Type 0} → Ty-F X → Bool
is_part_at Ty-F.Untyped = false
is_part_at Ty-F.Never = false
is_part_at (Ty-F.Any parts) = false
is_part_at _ = true

abbrev pub is_part : Ty → Bool
is_part t = is_part_at (out-Ty t)

-- whether types stand in the order of their texts, and none lies in another
abbrev pub are_apart : Lineage → List Ty → Bool
are_apart L ts = in_order shown ts && all_apart (lies_in L) ts

-- ---- types

-- Whether each union in a type has two parts or more, and each intersection two members, in the order of their texts, and none of them
-- lies in another. `f` tells it of the types in it, which are `it`.
abbrev pub is_arranged_at : {X : Type 0} → (X → Ty) → (X → Bool) → Lineage → Ty-F X → Bool
is_arranged_at it f L (Ty-F.Arr e) = f e
is_arranged_at it f L (Ty-F.Hsh k v) = f k && f v
is_arranged_at it f L (Ty-F.Any parts) = list_all f parts && (list_all is_part (map it parts) && (has_several parts && are_apart L (map it parts)))
is_arranged_at it f L (Ty-F.All members) = has_several members && are_apart L (map it members)
is_arranged_at it f L _ = true

unfoldable pub is_arranged : Lineage → Ty → Bool
is_arranged L = para-Ty Bool (is_arranged_at (λ x. x.0) (λ x. x.1) L)

-- an argument of an array or hash that may stand inside so many others: that of the last one is `T.untyped`
abbrev pub is_cut_argument : Ty → (ℕ → Bool) → ℕ → Bool
is_cut_argument e f n = if nat_eq n 0 then is_untyped e else f (n - 1)

abbrev pub is_cut_at : {X : Type 0} → (X → Ty) → (X → ℕ → Bool) → Ty-F X → ℕ → Bool
is_cut_at it f (Ty-F.Arr e) n = is_cut_argument (it e) (f e) n
is_cut_at it f (Ty-F.Hsh k v) n = is_cut_argument (it k) (f k) n && is_cut_argument (it v) (f v) n
is_cut_at it f (Ty-F.Any parts) n = list_all (λ p. f p n) parts
is_cut_at it f _ n = true

-- whether the arguments of each array and hash of a type that stands inside so many others are `T.untyped`
unfoldable pub is_cut : Ty → ℕ → Bool
is_cut = para-Ty (ℕ → Bool) (is_cut_at (λ x. x.0) (λ x. x.1))

-- A type in normal form: its names are those of classes and modules and the members of its intersections go together, so that each of its
-- parts has a shape; its parts and members are arranged; and an array or hash inside eight others has `T.untyped` for arguments.
pub record IsNormal (L : Lineage) (t : Ty) : Type 0 where
  pub fitting : IsTrue (fits L t)
  pub arranged : IsTrue (is_arranged L t)
  pub shallow : IsTrue (is_cut t 8)

-- ---- what tells types apart

-- no two classes or modules inherit from each other
abbrev pub HasNoCircles : Lineage → Type 0
HasNoCircles L = (c d : List ℕ) → Has (L.lin c) d → Has (L.lin d) c → c ≡ d

-- parts that are shown alike are one
abbrev pub TextsTell : Lineage → Type 0
TextsTell L =
    (p q : Ty) → IsTrue (fits L p) → IsTrue (fits L q) → IsTrue (is_arranged L p) → IsTrue (is_arranged L q)
    → IsTrue (is_part p) → IsTrue (is_part q) → shown p ≡ shown q → p ≡ q

-- whether a name has no blank, bracket, comma or dot
abbrev pub is_plain : List ℕ → Bool
is_plain name = list_all (λ c. not (list_any (nat_eq c) (codes " (),[]."))) name

-- The names of classes and modules are plain, and none of them is `T::Boolean`, which two classes together are shown as.
abbrev pub HasPlainNames : Lineage → Type 0
HasPlainNames L = (c : List ℕ) → IsTrue (is_body (L.kind c)) → IsTrue (is_plain c && not (bytes_eq c BOOLEAN))

-- ---- without `T.untyped`

abbrev pub is_typed_at : {X : Type 0} → (X → Bool) → Ty-F X → Bool
is_typed_at f Ty-F.Untyped = false
is_typed_at f (Ty-F.Arr e) = f e
is_typed_at f (Ty-F.Hsh k v) = f k && f v
is_typed_at f (Ty-F.Any parts) = list_all f parts
is_typed_at f _ = true

-- whether no `T.untyped` stands in a type
unfoldable pub is_typed : Ty → Bool
is_typed = fold-Ty Bool (λ t. is_typed_at (λ b. b) t)
