-- Lists in order, and lists whose elements are apart, with one more element or with some left out.
use Rattle.std.proofs.Common.{◌≡◌, ℕ, Bool, true, false, not, cond, ◌&&◌, ◌||◌, List, [], ◌∷◌, refl, ap, if◌then◌else◌}
use Rattle.std.specs.Bool.{IsTrue}
use Rattle.std.specs.List.{filter, list_all, list_any}
use Rattle.srb_types.specs.Order.{is_before, before_all, placed}
use Rattle.srb_shapes_laws.proofs.Bools.{either, and-both, and-first, and-second, and-map, and-fails}
use Rattle.srb_types_laws.specs.NormalForms.{in_order, is_apart, all_apart}
use Rattle.srb_types_laws.proofs.Orders.{Upto, upto-itself, upto-chain, upto-before}

pub all-map : {A : Type 0} (p q : A → Bool) → ((x : A) → IsTrue (p x) → IsTrue (q x)) → (xs : List A) → IsTrue (list_all p xs) → IsTrue (list_all q xs)
all-map p q f [] h = refl
all-map p q f (x ∷ xs) h = and-map (p x) _ (q x) _ (f x) (all-map p q f xs) h

pub all-both : {A : Type 0} (p q r : A → Bool) → ((x : A) → IsTrue (p x) → IsTrue (q x) → IsTrue (r x)) → (xs : List A)
    → IsTrue (list_all p xs) → IsTrue (list_all q xs) → IsTrue (list_all r xs)
all-both p q r f [] h k = refl
all-both p q r f (x ∷ xs) h k = and-both (r x) _ (f x (and-first (p x) _ h) (and-first (q x) _ k))
    (all-both p q r f xs (and-second (p x) _ h) (and-second (q x) _ k))

-- where no element passes, each of them fails
pub none-passes : {A : Type 0} (f : A → Bool) (xs : List A) → list_any f xs ≡ false → IsTrue (list_all (λ x. not (f x)) xs)
none-passes f [] h = refl
none-passes f (x ∷ xs) h = go (f x) (list_any f xs) h (none-passes f xs)
  where
    go : (a b : Bool) → (a || b) ≡ false → (b ≡ false → IsTrue (list_all (λ y. not (f y)) xs)) → IsTrue (not a && list_all (λ y. not (f y)) xs)
    go true b e next = cc
    go false b e next = next e

-- ---- some left out

pub all-filtered : {A : Type 0} (p f : A → Bool) (xs : List A) → IsTrue (list_all p xs) → IsTrue (list_all p (filter f xs))
all-filtered p f [] h = refl
all-filtered p f (x ∷ xs) h = go (f x) (all-filtered p f xs (and-second (p x) _ h))
  where
    go : (b : Bool) → IsTrue (list_all p (filter f xs)) → IsTrue (list_all p (cond b (x ∷ filter f xs) (filter f xs)))
    go true k = and-both (p x) _ (and-first _ _ h) k
    go false k = k

-- those that are left pass
pub filtered-pass : {A : Type 0} (f : A → Bool) (xs : List A) → IsTrue (list_all f (filter f xs))
filtered-pass f [] = refl
filtered-pass f (x ∷ xs) = go (f x) refl (filtered-pass f xs)
  where
    go : (b : Bool) → f x ≡ b → IsTrue (list_all f (filter f xs)) → IsTrue (list_all f (cond b (x ∷ filter f xs) (filter f xs)))
    go true e k = and-both (f x) _ e k
    go false e k = k

pub ordered-filtered : {A : Type 0} (text : A → List ℕ) (f : A → Bool) (xs : List A) → IsTrue (in_order text xs) → IsTrue (in_order text (filter f xs))
ordered-filtered text f [] h = refl
ordered-filtered text f (x ∷ xs) h = go (f x) (ordered-filtered text f xs (and-second (list_all (λ y. not (is_before (text y) (text x))) xs) _ h))
  where
    go : (b : Bool) → IsTrue (in_order text (filter f xs)) → IsTrue (in_order text (cond b (x ∷ filter f xs) (filter f xs)))
    go true k = and-both (list_all (λ y. not (is_before (text y) (text x))) (filter f xs)) _
        (all-filtered (λ y. not (is_before (text y) (text x))) f xs (and-first _ _ h)) k
    go false k = k

pub apart-filtered : {A : Type 0} (test : A → A → Bool) (f : A → Bool) (xs : List A) → IsTrue (all_apart test xs) → IsTrue (all_apart test (filter f xs))
apart-filtered test f [] h = refl
apart-filtered test f (x ∷ xs) h = go (f x) (apart-filtered test f xs (and-second (list_all (is_apart test x) xs) _ h))
  where
    go : (b : Bool) → IsTrue (all_apart test (filter f xs)) → IsTrue (all_apart test (cond b (x ∷ filter f xs) (filter f xs)))
    go true k = and-both (list_all (is_apart test x) (filter f xs)) _ (all-filtered (is_apart test x) f xs (and-first _ _ h)) k
    go false k = k

-- ---- one more

pub all-placed : {A : Type 0} (p : A → Bool) (text : A → List ℕ) (x : A) (xs : List A) → IsTrue (p x) → IsTrue (list_all p xs) → IsTrue (list_all p (placed text x xs))
all-placed p text x [] h k = and-both (p x) _ h refl
all-placed p text x (y ∷ ys) h k = go (before_all text (text x) (y ∷ ys)) (all-placed p text x ys h (and-second (p y) _ k))
  where
    go : (b : Bool) → IsTrue (list_all p (placed text x ys)) → IsTrue (list_all p (if b then x ∷ y ∷ ys else y ∷ placed text x ys))
    go true later = and-both (p x) _ h k
    go false later = and-both (p y) _ (and-first _ _ k) later

-- a text that doesn't come after those of a list doesn't come after one that isn't before them all
upto-some : {A : Type 0} (text : A → List ℕ) (a t : List ℕ) (xs : List A) → IsTrue (list_all (λ y. not (is_before (text y) a)) xs)
    → before_all text t xs ≡ false → Upto a t
upto-some text a t [] h f = cc
upto-some text a t (y ∷ ys) h f = either
    (λ n. upto-chain a (text y) t (and-first _ _ h) (ap not n))
    (λ n. upto-some text a t ys (and-second (not (is_before (text y) a)) _ h) n)
    (and-fails (is_before t (text y)) _ f)

pub ordered-placed : {A : Type 0} (text : A → List ℕ) (x : A) (xs : List A) → IsTrue (in_order text xs) → IsTrue (in_order text (placed text x xs))
ordered-placed text x [] h = refl
ordered-placed text x (y ∷ ys) h = go (before_all text (text x) (y ∷ ys)) refl (ordered-placed text x ys (and-second (list_all (λ z. not (is_before (text z) (text y))) ys) _ h))
  where
    go : (b : Bool) → before_all text (text x) (y ∷ ys) ≡ b → IsTrue (in_order text (placed text x ys))
        → IsTrue (in_order text (if b then x ∷ y ∷ ys else y ∷ placed text x ys))
    go true e later = and-both (list_all (λ z. not (is_before (text z) (text x))) (y ∷ ys)) _
        (all-map (λ z. is_before (text x) (text z)) _ (λ z k. upto-before (text x) (text z) k) (y ∷ ys) e) h
    go false e later = and-both (list_all (λ z. not (is_before (text z) (text y))) (placed text x ys)) _
        (all-placed (λ z. not (is_before (text z) (text y))) text x ys
        (upto-some text (text y) (text x) (y ∷ ys) (and-both (not (is_before (text y) (text y))) _ (upto-itself (text y)) (and-first _ _ h)) e)
        (and-first _ _ h)) later

pub apart-placed : {A : Type 0} (test : A → A → Bool) (text : A → List ℕ) (x : A) (xs : List A) → IsTrue (list_all (is_apart test x) xs)
    → IsTrue (all_apart test xs) → IsTrue (all_apart test (placed text x xs))
apart-placed test text x [] h k = refl
apart-placed test text x (y ∷ ys) h k = go (before_all text (text x) (y ∷ ys))
    (apart-placed test text x ys (and-second (is_apart test x y) _ h) (and-second (list_all (is_apart test y) ys) _ k))
  where
    go : (b : Bool) → IsTrue (all_apart test (placed text x ys)) → IsTrue (all_apart test (if b then x ∷ y ∷ ys else y ∷ placed text x ys))
    go true later = and-both (list_all (is_apart test x) (y ∷ ys)) _ h k
    go false later = and-both (list_all (is_apart test y) (placed text x ys)) _
        (all-placed (is_apart test y) text x ys
        (and-both (not (test y x)) _ (and-second (not (test x y)) _ (and-first (is_apart test x y) _ h)) (and-first (not (test x y)) _ (and-first (is_apart test x y) _ h)))
        (and-first _ _ k)) later
