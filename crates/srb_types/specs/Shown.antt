-- The text that a type is shown as.
use Rattle.std.specs.Prelude.{ℕ, not, ◌&&◌, List, [], ◌∷◌, ◌++◌, codes, bytes_eq, if◌then◌else◌}
use Rattle.std.specs.List.{filter}
use Rattle.srb_terms.specs.NameSets.{has_name}
use Rattle.srb_terms.specs.declared.ty.Ty.{Ty, fold-Ty}
use Rattle.srb_terms.specs.declared.ty.Ty.TheOpen.{Ty-F}
use Rattle.srb_types.specs.Order.{placed}

abbrev pub NIL : List ℕ
NIL = codes "NilClass"

abbrev pub TRUE : List ℕ
TRUE = codes "TrueClass"

abbrev pub FALSE : List ℕ
FALSE = codes "FalseClass"

abbrev pub BOOLEAN : List ℕ
BOOLEAN = codes "T::Boolean"

-- ---- lists of texts

-- texts after what stands so far, each after a comma
abbrev pub commas_after : List ℕ → List (List ℕ) → List ℕ
commas_after so_far [] = so_far
commas_after so_far (t ∷ ts) = commas_after (so_far ++ codes ", " ++ t) ts

-- texts between commas, after a start and before a bracket
abbrev pub listed : List ℕ → List (List ℕ) → List ℕ
listed start [] = start ++ codes ")"
listed start (t ∷ ts) = commas_after (start ++ t) ts ++ codes ")"

-- texts put into their order, among those so far
abbrev pub ordered_after : List (List ℕ) → List (List ℕ) → List (List ℕ)
ordered_after so_far [] = so_far
ordered_after so_far (t ∷ ts) = ordered_after (placed (λ u. u) t so_far) ts

-- the texts but for those that are this one
abbrev pub all_but : List ℕ → List (List ℕ) → List (List ℕ)
all_but t texts = filter (λ u. not (bytes_eq u t)) texts

-- ---- unions

-- `TrueClass` and `FalseClass` together are one text, in its own place
abbrev pub with_boolean : List (List ℕ) → List (List ℕ)
with_boolean texts =
    if has_name TRUE texts && has_name FALSE texts then placed (λ u. u) BOOLEAN (all_but TRUE (all_but FALSE texts)) else texts

-- no part, one part, or several
abbrev pub any_text : List (List ℕ) → List ℕ
any_text [] = codes "T.noreturn"
any_text (t ∷ []) = t
any_text (t ∷ u ∷ ts) = listed (codes "T.any(") (t ∷ u ∷ ts)

-- the text of a union with `NilClass` and these others
abbrev pub nilable_text : List (List ℕ) → List ℕ
nilable_text [] = NIL
nilable_text (t ∷ ts) = codes "T.nilable(" ++ any_text (t ∷ ts) ++ codes ")"

-- the text of a union whose parts have these texts, in order
abbrev pub ordered_text : List (List ℕ) → List ℕ
ordered_text texts = if has_name NIL texts then nilable_text (all_but NIL (with_boolean texts)) else any_text (with_boolean texts)

-- the text of a union whose parts have these texts
abbrev pub union_text : List (List ℕ) → List ℕ
union_text texts = ordered_text (ordered_after [] texts)

-- ---- types

abbrev pub array_text : List ℕ → List ℕ
array_text element = codes "T::Array[" ++ element ++ codes "]"

abbrev pub hash_text : List ℕ → List ℕ → List ℕ
hash_text key value = codes "T::Hash[" ++ key ++ codes ", " ++ value ++ codes "]"

-- a type by the texts of the types in it
abbrev pub shown_at : Ty-F (List ℕ) → List ℕ
shown_at Ty-F.Untyped = codes "T.untyped"
shown_at Ty-F.Never = codes "T.noreturn"
shown_at (Ty-F.Class name) = name
shown_at (Ty-F.Meta name) = codes "T.class_of(" ++ name ++ codes ")"
shown_at (Ty-F.Arr element) = array_text element
shown_at (Ty-F.Hsh key value) = hash_text key value
shown_at (Ty-F.Any texts) = union_text texts
shown_at (Ty-F.All texts) = listed (codes "T.all(") texts

unfoldable pub shown : Ty → List ℕ
shown = fold-Ty (List ℕ) (λ t. shown_at t)
