-- What stands before and after a mark, and the parts between marks, by the first mark of a text.
use Rattle.std.proofs.Common.{◌≡◌, ◌≢◌, ℕ, ◌+◌, ◌<◌, true, false, ◌==◌, List, [], ◌∷◌, ◌++◌, Option, Some, None, length, get_or, refl, sym, ap, ◌∙◌, arith, Bor}
use Rattle.std.specs.Prelude.{MatchOption, option_map}
use Rattle.std.proofs.lemmas.Bool.Decides.{nat_tests}
use Rattle.std.proofs.lemmas.Grind.{common_steps}
use Rattle.srb_builtin.specs.Marks.{before, after, past, parts, onto_first}

-- no character of the text is the mark
abbrev pub Lacks : ℕ → List ℕ → Type 0
Lacks c xs = (i : ℕ) → i < length xs → get_or xs i 0 ≢ c

head-differs : (c x : ℕ) (xs : List ℕ) → Lacks c (x ∷ xs) → (x == c) ≡ false
head-differs c x xs h = let ne : x ≢ c = h 0 (grind (arith, common_steps)) in grind (arith, nat_tests)

tail-lacks : (c x : ℕ) (xs : List ℕ) → Lacks c (x ∷ xs) → Lacks c xs
tail-lacks c x xs h i lt = let k = h (i + 1) (grind (arith, common_steps)) in grind (arith, common_steps)

same : (c : ℕ) → (c == c) ≡ true
same c = grind (arith, nat_tests)

pub before-none : (c : ℕ) (xs : List ℕ) → Lacks c xs → before c xs ≡ xs
before-none c [] h = refl
before-none c (x ∷ xs) h = rw (head-differs c x xs h) (ap (λ l. x ∷ l) (before-none c xs (tail-lacks c x xs h)))

pub before-at : (c : ℕ) (xs ys : List ℕ) → Lacks c xs → before c (xs ++ c ∷ ys) ≡ xs
before-at c [] ys h = rw (same c) refl
before-at c (x ∷ xs) ys h = rw (head-differs c x xs h) (ap (λ l. x ∷ l) (before-at c xs ys (tail-lacks c x xs h)))

pub after-none : (c : ℕ) (xs : List ℕ) → Lacks c xs → after c xs ≡ []
after-none c [] h = refl
after-none c (x ∷ xs) h = rw (head-differs c x xs h) (after-none c xs (tail-lacks c x xs h))

pub after-at : (c : ℕ) (xs ys : List ℕ) → Lacks c xs → after c (xs ++ c ∷ ys) ≡ ys
after-at c [] ys h = rw (same c) refl
after-at c (x ∷ xs) ys h = rw (head-differs c x xs h) (after-at c xs ys (tail-lacks c x xs h))

pub parts-none : (c : ℕ) (xs : List ℕ) → Lacks c xs → parts c xs ≡ xs ∷ []
parts-none c [] h = refl
parts-none c (x ∷ xs) h = rw (head-differs c x xs h) (ap (onto_first x) (parts-none c xs (tail-lacks c x xs h)))

pub parts-at : (c : ℕ) (xs ys : List ℕ) → Lacks c xs → parts c (xs ++ c ∷ ys) ≡ xs ∷ parts c ys
parts-at c [] ys h = rw (same c) refl
parts-at c (x ∷ xs) ys h = rw (head-differs c x xs h) (ap (onto_first x) (parts-at c xs ys (tail-lacks c x xs h)))

-- what `strip_prefix` gives at a mark
past-none : (c : ℕ) (bs : List ℕ) → ((rest : List ℕ) → bs ≢ c ∷ rest) → past c bs ≡ None
past-none c [] h = refl
past-none c (b ∷ bs) h = let ne : b ≢ c = λ e. h bs (ap (λ x. x ∷ bs) e) in let no : (b == c) ≡ false = grind (arith, nat_tests) in rw no refl

pub past-by : (c : ℕ) (bs : List ℕ) (r : Option (Bor (List ℕ))) → MatchOption r ((rest : List ℕ) → bs ≢ c ∷ rest) (λ x. bs ≡ c ∷ x.now) → option_map (λ rest. rest.now) r ≡ past c bs
past-by c bs None h = sym (past-none c bs h)
past-by c bs (Some x) h = rw h (rw (same c) refl)

-- the first part, by what `split_once` gives at a mark
pub parts-by : (c : ℕ) (bs : List ℕ) (r : Option (Bor (List ℕ) × Bor (List ℕ)))
    → MatchOption r (Lacks c bs) (λ x. (bs ≡ x.0.now ++ (c ∷ x.1.now)) × Lacks c x.0.now)
    → MatchOption r (parts c bs ≡ bs ∷ []) (λ x. parts c bs ≡ x.0.now ∷ parts c x.1.now)
parts-by c bs None h = parts-none c bs h
parts-by c bs (Some x) h = rw h.0 (parts-at c x.0.now x.1.now h.1)
