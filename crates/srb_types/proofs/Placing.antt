-- Where an element is placed in a list in order.
use Rattle.std.proofs.Common.{◌≡◌, ℕ, zero, suc, ◌-◌, ◌<◌, ◌≤◌, Bool, true, false, cond, ◌&&◌, List, [], ◌∷◌, length, get_or, drop, insert, refl, ap, sym, ◌∙◌, arith}
use Rattle.srb_types.specs.Order.{is_before, before_all, placed}

-- before all others
pub placed_first : {A : Type 0} (text : A → List ℕ) (p : A) (xs : List A) → before_all text (text p) xs ≡ true → placed text p xs ≡ p ∷ xs
placed_first text p [] all = refl
placed_first text p (x ∷ xs) all = ap (λ b. cond b (p ∷ x ∷ xs) (x ∷ placed text p xs)) all

and_false : (a b : Bool) → b ≡ false → (a && b) ≡ false
and_false true b is = is
and_false false b is = refl

-- one element that it doesn't stand before
not_all : {A : Type 0} (text : A → List ℕ) (t : List ℕ) (xs : List A) (i : ℕ) (d : A) → i < length xs
    → is_before t (text (get_or xs i d)) ≡ false → before_all text t xs ≡ false
not_all text t [] i d within is = absurd (omega (arith, within))
not_all text t (x ∷ xs) zero d within is = ap (λ b. b && before_all text t xs) is
not_all text t (x ∷ xs) (suc i) d within is =
    and_false (is_before t (text x)) (before_all text t xs) (not_all text t xs i d (omega (arith, within)) is)

-- after the first element at least
later : {A : Type 0} (text : A → List ℕ) (p x : A) (xs : List A) → before_all text (text p) (x ∷ xs) ≡ false
    → placed text p (x ∷ xs) ≡ x ∷ placed text p xs
later text p x xs is = ap (λ b. cond b (p ∷ x ∷ xs) (x ∷ placed text p xs)) is

after_one : {A : Type 0} (text : A → List ℕ) (p : A) (xs : List A) (i : ℕ) (d : A) → i < length xs
    → is_before (text p) (text (get_or xs i d)) ≡ false → before_all text (text p) (drop (suc i) xs) ≡ true
    → placed text p xs ≡ insert xs (suc i) p
after_one text p [] i d within is all = absurd (omega (arith, within))
after_one text p (x ∷ xs) zero d within is all =
    later text p x xs (not_all text (text p) (x ∷ xs) zero d within is) ∙ ap (λ ys. x ∷ ys) (placed_first text p xs all)
after_one text p (x ∷ xs) (suc i) d within is all =
    later text p x xs (not_all text (text p) (x ∷ xs) (suc i) d within is)
    ∙ ap (λ ys. x ∷ ys) (after_one text p xs i d (omega (arith, within)) is all)

-- directly after the last element that it doesn't stand before
pub placed_after : {A : Type 0} (text : A → List ℕ) (p : A) (xs : List A) (n : ℕ) (d : A) → 0 < n → n ≤ length xs
    → is_before (text p) (text (get_or xs (n - 1) d)) ≡ false → before_all text (text p) (drop n xs) ≡ true
    → placed text p xs ≡ insert xs n p
placed_after text p xs zero d some within is all = absurd (omega (arith, some))
placed_after text p xs (suc n) d some within is all =
    let e : suc n - 1 ≡ n = omega arith in
    after_one text p xs n d (omega (arith, within)) (ap (λ k. is_before (text p) (text (get_or xs k d))) (sym e) ∙ is) all
