-- What is kept of a list, one element after the other.
use Rattle.std.proofs.Common.{◌≡◌, ℕ, suc, ◌+◌, ◌<◌, Bool, true, false, cond, not, ◌||◌, List, [], ◌∷◌, ◌++◌, length, get_or, drop, append_assoc, add-one, refl, ap, sym, ◌∙◌}
use Rattle.std.proofs.Math.Seq.{drop-cons}
use Rattle.std.proofs.lemmas.Bool.{true≢false}
use Rattle.std.specs.List.{filter, list_any}

pushed_if : {A : Type 0} (keep : Bool) (xs : List A) (x : A) (ys : List A) →
    cond keep (xs ++ x ∷ []) xs ++ ys ≡ xs ++ cond keep (x ∷ ys) ys
pushed_if true xs x ys = append_assoc xs (x ∷ []) ys
pushed_if false xs x ys = refl

-- the elements kept so far and those kept of the rest, after one element more
pub kept_step : {A : Type 0} (test : A → Bool) (all : List A) (i : ℕ) (x : A) (keep : Bool) (old new whole : List A) →
    i < length all → x ≡ get_or all i x → keep ≡ test x → new ≡ cond keep (old ++ x ∷ []) old →
    old ++ filter test (drop i all) ≡ whole → new ++ filter test (drop (i + 1) all) ≡ whole
kept_step test all i x keep old new whole within is tests now before =
    ap (λ xs. xs ++ filter test (drop (i + 1) all)) now
    ∙ ap (λ n. cond keep (old ++ x ∷ []) old ++ filter test (drop n all)) (add-one i)
    ∙ pushed_if keep old x (filter test (drop (suc i) all))
    ∙ ap (λ b. old ++ cond b (x ∷ filter test (drop (suc i) all)) (filter test (drop (suc i) all))) tests
    ∙ ap (λ xs. old ++ filter test xs) (ap (λ y. y ∷ drop (suc i) all) is ∙ sym (drop-cons all i x within))
    ∙ before

-- where nothing is to be dropped, all stay
rest_stays : {A : Type 0} (b : Bool) (rest : Bool) (x : A) (xs ys : List A) → (b || rest) ≡ false → (rest ≡ false → xs ≡ ys)
    → x ∷ xs ≡ cond (not b) (x ∷ ys) ys
rest_stays true rest x xs ys none next = absurd (true≢false none)
rest_stays false rest x xs ys none next = ap (λ zs. x ∷ zs) (next none)

pub none_dropped : {A : Type 0} (f : A → Bool) (xs : List A) → list_any f xs ≡ false → xs ≡ filter (λ x. not (f x)) xs
none_dropped f [] none = refl
none_dropped f (x ∷ xs) none =
    rest_stays (f x) (list_any f xs) x xs (filter (λ y. not (f y)) xs) none (none_dropped f xs)
