-- Lists and tests, as the lemmas on tokens use them.
use Rattle.std.proofs.Common.{◌≡◌, ◌≢◌, ℕ, zero, suc, ◌+◌, ◌<◌, ◌≤◌, Bool, true, false, not, ◌==◌, ◌&&◌, ◌||◌, if◌then◌else◌, List, [], ◌∷◌, ◌++◌, length, take, drop, refl, sym, ap, ◌∙◌, inl, inr, ◌⊎◌, arith}
use Rattle.std.specs.Prelude.{slice_index}
use Rattle.std.proofs.lemmas.Bool.Decides.{nat_tests}
use Rattle.std.proofs.lemmas.List.{take-append-drop}
use Rattle.rb_rules.specs.Spellings.{Begins}

-- ---- tests

pub split : {A : Type 0} (P : A → Type 0) (t : Bool) (a b : A) → (t ≡ true → P a) → (t ≡ false → P b) → P (if t then a else b)
split P true a b yes_ no_ = yes_ refl
split P false a b yes_ no_ = no_ refl

pub if-true : {A : Type 0} (t : Bool) (a b : A) → t ≡ true → (if t then a else b) ≡ a
if-true true a b e = refl
if-true false a b e = absurd (cc)

pub if-false : {A : Type 0} (t : Bool) (a b : A) → t ≡ false → (if t then a else b) ≡ b
if-false false a b e = refl
if-false true a b e = absurd (cc)

pub and-both : (a b : Bool) → (a && b) ≡ true → (a ≡ true) × (b ≡ true)
and-both true b h = (refl, h)
and-both false b h = absurd (cc)

pub both-and : (a b : Bool) → a ≡ true → b ≡ true → (a && b) ≡ true
both-and true b e h = h
both-and false b e h = absurd (cc)

pub or-either : (a b : Bool) → (a || b) ≡ true → (a ≡ true) ⊎ (b ≡ true)
or-either true b h = inl refl
or-either false b h = inr h

pub or-neither : (a b : Bool) → (a || b) ≡ false → (a ≡ false) × (b ≡ false)
or-neither true b h = absurd (cc)
or-neither false b h = (refl, h)

pub left-or : (a b : Bool) → a ≡ true → (a || b) ≡ true
left-or true b h = refl
left-or false b h = absurd (cc)

pub right-or : (a b : Bool) → b ≡ true → (a || b) ≡ true
right-or true b h = refl
right-or false b h = h

pub not-true : (a : Bool) → not a ≡ true → a ≡ false
not-true true h = absurd (cc)
not-true false h = refl

pub not-false : (a : Bool) → not a ≡ false → a ≡ true
not-false true h = refl
not-false false h = absurd (cc)

pub not-of : (a : Bool) → a ≡ false → not a ≡ true
not-of true h = absurd (cc)
not-of false h = refl

pub no-both : {X : Type 0} (a : Bool) → a ≡ true → a ≡ false → X
no-both a h k = absurd (cc)

pub decided : (t : Bool) → (t ≡ true) ⊎ (t ≡ false)
decided true = inl refl
decided false = inr refl

pub false-of : (t : Bool) → ¬ (t ≡ true) → t ≡ false
false-of true h = absurd (h refl)
false-of false h = refl

pub eq-is : (a b : ℕ) → (a == b) ≡ true → a ≡ b
eq-is a b h = grind (arith, nat_tests)

pub is-eq : (a b : ℕ) → a ≡ b → (a == b) ≡ true
is-eq a b h = grind (arith, nat_tests)

pub eq-not : (a b : ℕ) → (a == b) ≡ false → a ≢ b
eq-not a b h = grind (arith, nat_tests)

pub not-eq : (a b : ℕ) → a ≢ b → (a == b) ≡ false
not-eq a b h = grind (arith, nat_tests)

-- ---- parts of lists

pub drop-front : {A : Type 0} (a z : List A) → drop (length a) (a ++ z) ≡ z
drop-front [] z = refl
drop-front (c ∷ a) z = drop-front a z

pub take-front : {A : Type 0} (a z : List A) → take (length a) (a ++ z) ≡ a
take-front [] z = refl
take-front (c ∷ a) z = ap (λ w. c ∷ w) (take-front a z)

pub take-length : {A : Type 0} (n : ℕ) (z : List A) → n ≤ length z → length (take n z) ≡ n
take-length zero z h = refl
take-length (suc n) [] h = absurd (omega arith)
take-length (suc n) (c ∷ z) h = ap suc (take-length n z (omega arith))

pub parts : {A : Type 0} (n : ℕ) (z : List A) → take n z ++ drop n z ≡ z
parts n z = take-append-drop n z

-- two fronts of one list of one length are the same
pub front-same : {A : Type 0} (v more w rest : List A) → v ++ more ≡ w ++ rest → length v ≡ length w → v ≡ w
front-same v more w rest e n = sym (take-front v more) ∙ ap (λ z. take (length v) z) e ∙ ap (λ k. take k (w ++ rest)) n ∙ take-front w rest

pub rest-same : {A : Type 0} (v more w rest : List A) → v ++ more ≡ w ++ rest → length v ≡ length w → more ≡ rest
rest-same v more w rest e n = sym (drop-front v more) ∙ ap (λ z. drop (length v) z) e ∙ ap (λ k. drop k (w ++ rest)) n ∙ drop-front w rest

pub at-drop : (n : ℕ) (z : List ℕ) → slice_index z n ≡ slice_index (drop n z) 0
at-drop zero z = refl
at-drop (suc n) [] = refl
at-drop (suc n) (c ∷ z) = at-drop n z

pub at-drop-one : (n : ℕ) (z : List ℕ) → slice_index z (n + 1) ≡ slice_index (drop n z) 1
at-drop-one zero z = refl
at-drop-one (suc n) [] = refl
at-drop-one (suc n) (c ∷ z) = let e : suc n + 1 ≡ suc (n + 1) = omega arith in ap (slice_index (c ∷ z)) e ∙ at-drop-one n z

pub tail-at : (z : List ℕ) → slice_index (drop 1 z) 0 ≡ slice_index z 1
tail-at [] = refl
tail-at (c ∷ z) = refl

-- ---- the first of what follows

pub begins-is : (k : ℕ) (z : List ℕ) → 0 < k → (slice_index z 0 == k) ≡ true → Begins k z
begins-is k [] some h = let e : 0 ≡ k = eq-is 0 k h in absurd (omega arith)
begins-is k (c ∷ z) some h = eq-is c k h

pub is-begins : (k : ℕ) (z : List ℕ) → Begins k z → (slice_index z 0 == k) ≡ true
is-begins k [] h = absurd h
is-begins k (c ∷ z) h = is-eq c k h

pub begins-not : (k : ℕ) (z : List ℕ) → 0 < k → ¬ Begins k z → (slice_index z 0 == k) ≡ false
begins-not k z some h = false-of (slice_index z 0 == k) (λ t. h (begins-is k z some t))

pub not-begins : (k : ℕ) (z : List ℕ) → (slice_index z 0 == k) ≡ false → ¬ Begins k z
not-begins k z h b = no-both (slice_index z 0 == k) (is-begins k z b) h

pub begins-parts : (k : ℕ) (z : List ℕ) → Begins k z → z ≡ k ∷ drop 1 z
begins-parts k [] h = absurd h
begins-parts k (c ∷ z) h = ap (λ d. d ∷ z) h

pub begins-on : (k : ℕ) (z : List ℕ) → 0 < k → (slice_index z 1 == k) ≡ true → Begins k (drop 1 z)
begins-on k z some h = begins-is k (drop 1 z) some (ap (λ c. c == k) (tail-at z) ∙ h)

pub on-begins : (k : ℕ) (z : List ℕ) → Begins k (drop 1 z) → (slice_index z 1 == k) ≡ true
on-begins k z h = ap (λ c. c == k) (sym (tail-at z)) ∙ is-begins k (drop 1 z) h

pub head-same : {A : Type 0} (c d : A) (y z : List A) → c ∷ y ≡ d ∷ z → c ≡ d
head-same c d y z e = cc

pub tail-same : {A : Type 0} (c d : A) (y z : List A) → c ∷ y ≡ d ∷ z → y ≡ z
tail-same c d y z e = cc
