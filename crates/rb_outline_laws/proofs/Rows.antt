-- Rows of parts that are read: what is taken from the start of a row, and what is the last of it.
use Rattle.std.proofs.Common.{◌≡◌, List, [], ◌∷◌, ◌++◌, map, Option, Some, None, refl, ap, sym, ◌∙◌}
use Rattle.srb_terms.specs.declared.outline.Outline.{Outline}
use Rattle.rb_outline_laws.proofs.Reading.{Reading, read, one_taken, taken, with_first, split_from, split_last}

-- ---- what is taken

pub ends : {A : Type 0} (p : Reading → Option A) → taken p [] ≡ ([], [])
unfolding taken
ends p = refl

pub stops : {A : Type 0} (p : Reading → Option A) (r : Reading) (rs : List Reading) → p r ≡ None → taken p (r ∷ rs) ≡ ([], r ∷ rs)
unfolding taken
stops p r rs h = ap (λ o. one_taken r rs o (taken p rs)) h

pub one-more : {A : Type 0} (p : Reading → Option A) (r : Reading) (rs : List Reading) (x : A) (xs : List A) (rest : List Reading) →
    p r ≡ Some x → taken p rs ≡ (xs, rest) → taken p (r ∷ rs) ≡ (x ∷ xs, rest)
unfolding taken
one-more p r rs x xs rest h t = λ i. one_taken r rs (h i) (t i)

nil-after : {A : Type 0} (xs : List A) → xs ++ [] ≡ xs
nil-after [] = refl
nil-after (x ∷ xs) = ap (λ ys. x ∷ ys) (nil-after xs)

-- a row with nothing after it
pub whole : {A : Type 0} (p : Reading → Option A) (parts : List Outline) (xs : List A) →
    taken p (map read (parts ++ [])) ≡ (xs, []) → taken p (map read parts) ≡ (xs, [])
whole p parts xs h = ap (λ os. taken p (map read os)) (sym (nil-after parts)) ∙ h

-- ---- the last

from-first : (o : Outline) (os : List Outline) (last : Outline) → split_from (read o) (map read (os ++ last ∷ [])) ≡ (read o ∷ map read os, read last)
unfolding split_from
from-first o [] last = refl
from-first o (p ∷ os) last = ap (with_first (read o)) (from-first p os last)

pub split-end : (os : List Outline) (last : Outline) → split_last (map read (os ++ last ∷ [])) ≡ (map read os, read last)
unfolding split_last split_from
split-end [] last = refl
split-end (o ∷ os) last = from-first o os last

regrouped : {A : Type 0} (xs ys zs : List A) → xs ++ (ys ++ zs) ≡ (xs ++ ys) ++ zs
regrouped [] ys zs = refl
regrouped (x ∷ xs) ys zs = ap (λ vs. x ∷ vs) (regrouped xs ys zs)

-- the last of two rows
pub split-two : (os ps : List Outline) (last : Outline) → split_last (map read (os ++ (ps ++ last ∷ []))) ≡ (map read (os ++ ps), read last)
split-two os ps last = ap (λ vs. split_last (map read vs)) (regrouped os ps (last ∷ [])) ∙ split-end (os ++ ps) last
