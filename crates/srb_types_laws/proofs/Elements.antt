-- One of the elements of a list, and lists with the same elements.
use Rattle.std.proofs.Common.{◌≡◌, ◌⊎◌, ℕ, Bool, true, false, not, cond, ◌&&◌, ◌||◌, List, [], ◌∷◌, map, inl, inr, refl, sym, ap, subst, ◌∙◌, if◌then◌else◌}
use Rattle.std.specs.Bool.{IsTrue}
use Rattle.std.specs.List.{filter, list_all, list_any}
use Rattle.srb_types.specs.Order.{is_before, before_all, placed}
use Rattle.srb_shapes_laws.proofs.Bools.{either, and-first, and-second, or-cases}
use Rattle.srb_types_laws.specs.NormalForms.{Among, in_order, is_apart, all_apart}
use Rattle.srb_types_laws.proofs.Orders.{Upto, upto-itself, upto-both}

pub among-kept : {A : Type 0} (f : A → Bool) (p : A) (xs : List A) → Among p (filter f xs) → Among p xs × IsTrue (f p)
among-kept f p [] h = absurd h
among-kept f p (x ∷ xs) h = go (f x) refl h (among-kept f p xs)
  where
    go : (b : Bool) → f x ≡ b → Among p (cond b (x ∷ filter f xs) (filter f xs)) → (Among p (filter f xs) → Among p xs × IsTrue (f p)) → Among p (x ∷ xs) × IsTrue (f p)
    go true e (inl same) next = (inl same, subst (λ q. IsTrue (f q)) same e)
    go true e (inr k) next = let n = next k in (inr n.0, n.1)
    go false e k next = let n = next k in (inr n.0, n.1)

pub kept-among : {A : Type 0} (f : A → Bool) (p : A) (xs : List A) → Among p xs → IsTrue (f p) → Among p (filter f xs)
kept-among f p [] h k = h
kept-among f p (x ∷ xs) (inl same) k = subst (λ b. Among p (cond b (x ∷ filter f xs) (filter f xs))) (sym (ap f same ∙ k)) (inl same)
kept-among f p (x ∷ xs) (inr h) k = go (f x) (kept-among f p xs h k)
  where
    go : (b : Bool) → Among p (filter f xs) → Among p (cond b (x ∷ filter f xs) (filter f xs))
    go true m = inr m
    go false m = m

pub among-all : {A : Type 0} (f : A → Bool) (p : A) (xs : List A) → Among p xs → IsTrue (list_all f xs) → IsTrue (f p)
among-all f p [] h k = absurd h
among-all f p (x ∷ xs) (inl same) k = subst (λ q. IsTrue (f q)) same (and-first _ _ k)
among-all f p (x ∷ xs) (inr h) k = among-all f p xs h (and-second (f x) _ k)

pub not-false : (b : Bool) → IsTrue (not b) → b ≡ false
not-false true h = cc
not-false false h = refl

pub not-both : (b : Bool) → IsTrue (not b) → IsTrue b → ⊥
not-both true h k = cc
not-both false h k = cc

pub some-among : {A : Type 0} (f : A → Bool) (xs : List A) → IsTrue (list_any f xs) → (x : A) × Among x xs × IsTrue (f x)
some-among f [] h = cc
some-among f (x ∷ xs) h = either
    (λ k. (x, inl refl, k))
    (λ k. let s = some-among f xs k in (s.0, inr s.1, s.2))
    (or-cases (f x) _ h)

pub among-some : {A : Type 0} (f : A → Bool) (x : A) (xs : List A) → Among x xs → IsTrue (f x) → IsTrue (list_any f xs)
among-some f x [] h k = absurd h
among-some f x (y ∷ ys) (inl same) k = ap (λ b. b || list_any f ys) (ap f same ∙ k)
among-some f x (y ∷ ys) (inr h) k = go (f y) (among-some f x ys h k)
  where
    go : (b : Bool) → IsTrue (list_any f ys) → IsTrue (b || list_any f ys)
    go true l = refl
    go false l = l

pub among-mapped : {A B : Type 0} (g : A → B) (x : A) (xs : List A) → Among x xs → Among (g x) (map g xs)
among-mapped g x [] h = absurd h
among-mapped g x (y ∷ ys) (inl same) = inl (ap g same)
among-mapped g x (y ∷ ys) (inr h) = inr (among-mapped g x ys h)

-- ---- lists whose elements are apart

-- of two elements of which one passes the test with the other, they are one
pub one-element : {A : Type 0} (test : A → A → Bool) (xs : List A) → IsTrue (all_apart test xs) → (x y : A) → Among x xs → Among y xs
    → IsTrue (test x y) → x ≡ y
one-element test [] apart x y a b h = absurd a
one-element test (z ∷ zs) apart x y (inl e) (inl f) h = sym e ∙ f
one-element test (z ∷ zs) apart x y (inl e) (inr b) h = absurd (not-both (test z y)
    (and-first _ _ (among-all (is_apart test z) y zs b (and-first _ _ apart))) (ap (λ w. test w y) e ∙ h))
one-element test (z ∷ zs) apart x y (inr a) (inl f) h = absurd (not-both (test x z)
    (and-second (not (test z x)) _ (among-all (is_apart test z) x zs a (and-first _ _ apart))) (ap (test x) f ∙ h))
one-element test (z ∷ zs) apart x y (inr a) (inr b) h = one-element test zs (and-second (list_all (is_apart test z) zs) _ apart) x y a b h

-- where each element of a list passes the test with one of another list, and each of that one with one of the first, all are there
pub all-there : {A : Type 0} (test : A → A → Bool) (xs ys : List A) → IsTrue (all_apart test xs)
    → ((x y z : A) → Among x xs → Among y ys → Among z xs → IsTrue (test x y) → IsTrue (test y z) → IsTrue (test x z))
    → ((x y : A) → Among x xs → Among y ys → IsTrue (test x y) → IsTrue (test y x) → x ≡ y)
    → ((x : A) → Among x xs → (y : A) × Among y ys × IsTrue (test x y))
    → ((y : A) → Among y ys → (x : A) × Among x xs × IsTrue (test y x))
    → (x : A) → Among x xs → Among x ys
all-there test xs ys apart chain same up back x a = let
    u = up x a in let
    b = back u.0 u.1 in let
    e = one-element test xs apart x b.0 a b.1 (chain x u.0 b.0 a u.1 b.1 u.2 b.2) in
    subst (λ z. Among z ys) (sym (same x u.0 a u.1 u.2 (ap (test u.0) e ∙ b.2))) u.1

-- ---- lists in order

first-upto : {A : Type 0} (text : A → List ℕ) (x y : A) (xs : List A) → IsTrue (in_order text (x ∷ xs)) → Among y (x ∷ xs) → Upto (text x) (text y)
first-upto text x y xs h (inl e) = subst (λ z. Upto (text x) (text z)) e (upto-itself (text x))
first-upto text x y xs h (inr a) = among-all (λ z. not (is_before (text z) (text x))) y xs a (and-first _ _ h)

-- two lists in order whose elements are apart, and told apart by their texts, are one where they have the same elements
pub same-lists : {A : Type 0} (text : A → List ℕ) (test : A → A → Bool) (xs ys : List A)
    → IsTrue (in_order text xs) → IsTrue (in_order text ys) → IsTrue (all_apart test xs) → IsTrue (all_apart test ys)
    → ((x : A) → Among x xs → IsTrue (test x x)) → ((y : A) → Among y ys → IsTrue (test y y))
    → ((x y : A) → Among x xs → Among y ys → text x ≡ text y → x ≡ y)
    → ((x : A) → Among x xs → Among x ys) → ((y : A) → Among y ys → Among y xs) → xs ≡ ys
same-lists text test [] [] o p a b r s tell to from = refl
same-lists text test [] (y ∷ ys) o p a b r s tell to from = absurd (from y (inl refl))
same-lists text test (x ∷ xs) [] o p a b r s tell to from = absurd (to x (inl refl))
same-lists {A} text test (x ∷ xs) (y ∷ ys) o p a b r s tell to from = let
    e = tell x y (inl refl) (inl refl) (upto-both (text x) (text y)
    (first-upto text x y xs o (from y (inl refl))) (first-upto text y x ys p (to x (inl refl)))) in let
    rest = same-lists text test xs ys
    (and-second (list_all (λ z. not (is_before (text z) (text x))) xs) _ o)
    (and-second (list_all (λ z. not (is_before (text z) (text y))) ys) _ p)
    (and-second (list_all (is_apart test x) xs) _ a) (and-second (list_all (is_apart test y) ys) _ b)
    (λ z m. r z (inr m)) (λ z m. s z (inr m)) (λ v w m n. tell v w (inr m) (inr n))
    (λ z m. later x y xs ys a (r x (inl refl)) e z m (to z (inr m)))
    (λ z m. later y x ys xs b (s y (inl refl)) (sym e) z m (from z (inr m))) in
    (λ i. e i ∷ rest i)
  where
    later : (v w : A) (vs ws : List A) → IsTrue (all_apart test (v ∷ vs)) → IsTrue (test v v) → v ≡ w → (z : A) → Among z vs → Among z (w ∷ ws) → Among z ws
    later v w vs ws apart self same z m (inl f) = absurd (not-both (test v z)
        (and-first _ _ (among-all (is_apart test v) z vs m (and-first _ _ apart))) (ap (test v) (sym (same ∙ f)) ∙ self))
    later v w vs ws apart self same z m (inr k) = k

-- the test the other way round
pub apart-turned : {A : Type 0} (test : A → A → Bool) (xs : List A) → IsTrue (all_apart test xs) → IsTrue (all_apart (λ x y. test y x) xs)
apart-turned test [] h = refl
apart-turned {A} test (x ∷ xs) h = both-hold (list_all (is_apart (λ v w. test w v) x) xs) _
    (turned xs (and-first _ _ h)) (apart-turned test xs (and-second (list_all (is_apart test x) xs) _ h))
  where
    both-hold : (c d : Bool) → IsTrue c → IsTrue d → IsTrue (c && d)
    both-hold true d h k = k
    both-hold false d h k = h

    turned : (ys : List A) → IsTrue (list_all (is_apart test x) ys) → IsTrue (list_all (is_apart (λ v w. test w v) x) ys)
    turned [] h = refl
    turned (y ∷ ys) h = both-hold (is_apart (λ v w. test w v) x y) _
        (both-hold (not (test y x)) _ (and-second (not (test x y)) _ (and-first (is_apart test x y) _ h)) (and-first (not (test x y)) _ (and-first (is_apart test x y) _ h)))
        (turned ys (and-second (is_apart test x y) _ h))

pub among-named : {A B : Type 0} (g : A → B) (y : B) (xs : List A) → Among y (map g xs) → (x : A) × Among x xs × (g x ≡ y)
among-named g y [] h = absurd h
among-named g y (x ∷ xs) (inl e) = (x, inl refl, e)
among-named g y (x ∷ xs) (inr h) = let k = among-named g y xs h in (k.0, inr k.1, k.2)

-- ---- placed among others

pub among-placed : {A : Type 0} (text : A → List ℕ) (p x : A) (xs : List A) → Among x (placed text p xs) → (p ≡ x) ⊎ Among x xs
among-placed text p x [] h = h
among-placed {A} text p x (y ∷ ys) h = go (before_all text (text p) (y ∷ ys)) h (among-placed text p x ys)
  where
    go : (b : Bool) → Among x (if b then p ∷ y ∷ ys else y ∷ placed text p ys) → (Among x (placed text p ys) → (p ≡ x) ⊎ Among x ys) → (p ≡ x) ⊎ Among x (y ∷ ys)
    go true k next = k
    go false (inl e) next = inr (inl e)
    go false (inr k) next = either (λ e. inl e) (λ a. inr (inr a)) (next k)

pub placed-among : {A : Type 0} (text : A → List ℕ) (p x : A) (xs : List A) → (p ≡ x) ⊎ Among x xs → Among x (placed text p xs)
placed-among text p x [] h = h
placed-among text p x (y ∷ ys) h = go (before_all text (text p) (y ∷ ys)) h (placed-among text p x ys)
  where
    go : (b : Bool) → (p ≡ x) ⊎ Among x (y ∷ ys) → ((p ≡ x) ⊎ Among x ys → Among x (placed text p ys)) → Among x (if b then p ∷ y ∷ ys else y ∷ placed text p ys)
    go true k next = k
    go false (inl e) next = inr (next (inl e))
    go false (inr (inl e)) next = inl e
    go false (inr (inr k)) next = inr (next (inr k))
