-- A small language for the examples: a handful of classes, whose unions are lists of names in order.
use Rattle.std.specs.Prelude.{ℕ, Bool, true, false, not, ◌&&◌, List, [], ◌∷◌, ◌++◌, codes, bytes_eq, nat_eq, nat_le, if◌then◌else◌}
use Rattle.std.specs.List.{filter, list_all, list_any, flat_map}
use Rattle.srb_terms.specs.NameSets.{has_name}

-- `T.untyped`, or a union of parts, each by its text
pub data Ty : Type 0 where
  Untyped : Ty
  Union : List (List ℕ) → Ty

abbrev pub NEVER : Ty
NEVER = Union []

-- the instances of a class
abbrev pub of : List ℕ → Ty
of name = Union (name ∷ [])

-- ---- classes

abbrev pub is_one_of : List (List ℕ) → List ℕ → Bool
is_one_of names name = has_name name names

-- the classes and modules above a class
abbrev pub above : List ℕ → List (List ℕ)
above name =
    if bytes_eq name (codes "Integer") then codes "Numeric" ∷ codes "Object" ∷ []
    else (if bytes_eq name (codes "Float") then codes "Numeric" ∷ codes "Object" ∷ []
    else (if bytes_eq name (codes "B") then codes "A" ∷ codes "Object" ∷ []
    else (if bytes_eq name (codes "StandardError") then codes "Exception" ∷ codes "Object" ∷ []
    else (if bytes_eq name (codes "ArgumentError") then codes "StandardError" ∷ codes "Exception" ∷ codes "Object" ∷ []
    else (if bytes_eq name (codes "TypeError") then codes "StandardError" ∷ codes "Exception" ∷ codes "Object" ∷ []
    else codes "Object" ∷ [])))))

-- whether a part lies in another one
abbrev pub lies_in : List ℕ → List ℕ → Bool
lies_in p q = if bytes_eq p q then true else has_name q (above p)

abbrev pub is_sub : Ty → Ty → Bool
is_sub Untyped u = true
is_sub (Union ps) Untyped = true
is_sub (Union ps) (Union qs) = list_all (λ p. list_any (lies_in p) qs) ps

-- ---- unions

abbrev pub precedes : List ℕ → List ℕ → Bool
precedes [] other = true
precedes (a ∷ p) [] = false
precedes (a ∷ p) (b ∷ q) = if nat_eq a b then precedes p q else nat_le a b

abbrev pub put_in : Bool → List ℕ → List (List ℕ) → List (List ℕ) → List (List ℕ)
put_in true p qs rest = p ∷ qs
put_in false p qs rest = rest

-- a part at its place
abbrev pub placed : List ℕ → List (List ℕ) → List (List ℕ)
placed p [] = p ∷ []
placed p (q ∷ qs) = put_in (precedes p q) p (q ∷ qs) (q ∷ placed p qs)

abbrev pub with_part : List (List ℕ) → List ℕ → List (List ℕ)
with_part ps p = if list_any (lies_in p) ps then ps else placed p (filter (λ q. not (lies_in q p)) ps)

abbrev pub with_parts : List (List ℕ) → List (List ℕ) → List (List ℕ)
with_parts ps [] = ps
with_parts ps (q ∷ qs) = with_parts (with_part ps q) qs

abbrev pub any : Ty → Ty → Ty
any Untyped u = Untyped
any (Union ps) Untyped = Untyped
any (Union ps) (Union qs) = Union (with_parts ps qs)

abbrev pub inner_part : List ℕ → List ℕ → List (List ℕ)
inner_part p q = if lies_in p q then p ∷ [] else (if lies_in q p then q ∷ [] else [])

abbrev pub meet : Ty → Ty → Ty
meet Untyped u = u
meet (Union ps) Untyped = Untyped
meet (Union ps) (Union qs) = Union (with_parts [] (flat_map (λ p. flat_map (inner_part p) qs) ps))

abbrev pub without : Ty → Ty → Ty
without Untyped u = Untyped
without (Union ps) Untyped = Union []
without (Union ps) (Union qs) = Union (filter (λ p. not (list_any (lies_in p) qs)) ps)

abbrev pub is_never : Ty → Bool
is_never Untyped = false
is_never (Union []) = true
is_never (Union (p ∷ ps)) = false

-- ---- texts

abbrev pub with_commas : List ℕ → List (List ℕ) → List ℕ
with_commas so_far [] = so_far
with_commas so_far (p ∷ ps) = with_commas (so_far ++ codes ", " ++ p) ps

abbrev pub show_parts : List (List ℕ) → List ℕ
show_parts [] = codes "T.noreturn"
show_parts (p ∷ []) = p
show_parts (p ∷ q ∷ ps) = codes "T.any(" ++ with_commas p (q ∷ ps) ++ codes ")"

abbrev pub both_booleans : List (List ℕ) → Bool
both_booleans ps = has_name (codes "FalseClass") ps && has_name (codes "TrueClass") ps

-- `TrueClass` and `FalseClass` together are one part
abbrev pub as_boolean : List (List ℕ) → List (List ℕ)
as_boolean ps =
    if both_booleans ps
    then placed (codes "T::Boolean") (filter (λ p. not (is_one_of (codes "FalseClass" ∷ codes "TrueClass" ∷ []) p)) ps)
    else ps

abbrev pub nilable : List (List ℕ) → List ℕ
nilable [] = codes "NilClass"
nilable (p ∷ ps) = codes "T.nilable(" ++ show_parts (p ∷ ps) ++ codes ")"

abbrev pub show_all : List (List ℕ) → List ℕ
show_all ps =
    if has_name (codes "NilClass") ps then nilable (filter (λ p. not (bytes_eq p (codes "NilClass"))) ps) else show_parts ps

abbrev pub show : Ty → List ℕ
show Untyped = codes "T.untyped"
show (Union ps) = show_all (as_boolean ps)

-- ---- arrays, hashes and class objects

abbrev pub array : Ty → Ty
array t = of (codes "T::Array[" ++ show t ++ codes "]")

abbrev pub hash : Ty → Ty → Ty
hash k v = of (codes "T::Hash[" ++ show k ++ codes ", " ++ show v ++ codes "]")

abbrev pub instance : List ℕ → Ty
instance name = if bytes_eq name (codes "Array") then array Untyped else of name

abbrev pub class_object : List ℕ → Ty
class_object name = of (codes "T.class_of(" ++ name ++ codes ")")

abbrev pub BOOLEAN : Ty
BOOLEAN = Union (codes "FalseClass" ∷ codes "TrueClass" ∷ [])
