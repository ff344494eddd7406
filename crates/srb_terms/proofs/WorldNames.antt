-- A text that is compared piece by piece.
use Rattle.std.proofs.Common.{◌≡◌, ℕ, Bool, true, false, ◌&&◌, List, [], ◌∷◌, ◌++◌, length, take, drop, nat_eq, bytes_eq, refl, sym, ap, ◌∙◌, zero, suc, cond, None, Some, is_some, unwrap_or}
use Rattle.std.specs.List.{slice_get}
use Rattle.std.specs.Map.{lookup_key}
use Rattle.std.specs.Cmp.Lexicographic.{nat_list_eq_equiv}

and_assoc : (a b c : Bool) → (a && (b && c)) ≡ ((a && b) && c)
and_assoc true b c = refl
and_assoc false b c = refl

-- a text and one after it are the whole where the first is its beginning and the second is its rest
by_pieces : (front back whole : List ℕ) → bytes_eq (front ++ back) whole ≡ (bytes_eq front (take (length front) whole) && bytes_eq back (drop (length front) whole))
by_pieces [] back whole = refl
by_pieces (x ∷ front) back [] = refl
by_pieces (x ∷ front) back (y ∷ whole) =
    ap (λ rest. nat_eq x y && rest) (by_pieces front back whole)
    ∙ and_assoc (nat_eq x y) (bytes_eq front (take (length front) whole)) (bytes_eq back (drop (length front) whole))

-- where the whole does not begin with the first
pub pieces-other : (front back whole : List ℕ) → bytes_eq (take (length front) whole) front ≡ false → false ≡ bytes_eq (front ++ back) whole
pieces-other front back whole other =
    sym (by_pieces front back whole
    ∙ ap (λ begins. begins && bytes_eq back (drop (length front) whole)) (nat_list_eq_equiv.symm front (take (length front) whole) ∙ other))

-- where it begins with the first, and what comes after that is the rest
pub pieces-on : (front back whole rest : List ℕ) → bytes_eq (take (length front) whole) front ≡ true → rest ≡ drop (length front) whole
    → bytes_eq back rest ≡ bytes_eq (front ++ back) whole
pieces-on front back whole rest begun is =
    ap (bytes_eq back) is
    ∙ sym (by_pieces front back whole
    ∙ ap (λ begins. begins && bytes_eq back (drop (length front) whole)) (nat_list_eq_equiv.symm front (take (length front) whole) ∙ begun))

some_same : {X : Type 0} {x y : X} → Some x ≡ Some y → x ≡ y
some_same {X} {x} same = ap (λ o. unwrap_or o x) same

-- the first key that passes a test, from a place in a list of pairs on
pub key-at : (test : List ℕ → Bool) {X : Type 0} (pairs : List (List ℕ × X)) (i : ℕ) (pair : List ℕ × X) → Some pair ≡ slice_get pairs i
    → lookup_key test (drop i pairs) ≡ cond (test pair.0) (Some pair.0) (lookup_key test (drop (suc i) pairs))
key-at test [] i pair is = absurd (Rattle.std.proofs.lemmas.Bool.true≢false (ap is_some is))
key-at test (first ∷ pairs) zero pair is = ap (λ (p : List ℕ × _). cond (test p.0) (Some p.0) (lookup_key test pairs)) (some_same (sym is))
key-at test (first ∷ pairs) (suc i) pair is = key-at test pairs i pair is

-- past the end of the list there is none
drop-none : {X : Type 0} (i : ℕ) → drop {A = X} i [] ≡ []
drop-none zero = refl
drop-none (suc i) = refl

pub key-past : (test : List ℕ → Bool) {X : Type 0} (pairs : List (List ℕ × X)) (i : ℕ) → None ≡ slice_get pairs i
    → lookup_key test (drop i pairs) ≡ lookup_key test (drop (suc i) pairs)
key-past test [] i past = ap (lookup_key test) (drop-none i)
key-past test (first ∷ pairs) zero past = absurd (Rattle.std.proofs.lemmas.Bool.true≢false (sym (ap is_some past)))
key-past test (first ∷ pairs) (suc i) past = key-past test pairs i past
