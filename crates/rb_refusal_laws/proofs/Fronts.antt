-- The fronts of what begins a program, and where lists part.
use Rattle.std.proofs.Common.{◌≡◌, ℕ, ◌<◌, List, [], ◌∷◌, ◌++◌, length, refl, sym, ap, subst, ◌∙◌, append_assoc, arith}
use Rattle.rb_tree.specs.declared.token.Token.{Token}
use Rattle.rb_rules.specs.Grammar.{Derives, Begins, BadAt}
use Rattle.rb_refusal_laws.specs.Laws.{OneFront, NoEndIsBad}

-- each front of what begins a program begins one
pub front-begins : (xs ys : List Token) → Begins (xs ++ ys) → Begins xs
front-begins xs ys (more, t, d) = (ys ++ more, t, subst (λ us. Derives us t) (append_assoc xs ys more) d)

-- the tokens up to and with one of them
pub begins-with : (tokens before : List Token) (bad : Token) (after : List Token) → tokens ≡ before ++ bad ∷ after → Begins tokens → Begins (before ++ bad ∷ [])
begins-with tokens before bad after e b = front-begins (before ++ bad ∷ []) after (subst Begins (e ∙ sym (append_assoc before (bad ∷ []) after)) b)

-- the second list goes on after the first with this token
abbrev Extends : List Token → Token → List Token → Type 0
Extends xs a ys = (more : List Token) × (ys ≡ xs ++ a ∷ more)

longer : (x : Token) (xs ys : List Token) (a : Token) → Extends xs a ys → Extends (x ∷ xs) a (x ∷ ys)
longer x xs ys a (more, e) = (more, ap (λ us. x ∷ us) e)

-- two fronts of one list
pub front-longer : (xs ys before : List Token) (bad : Token) (after : List Token) → xs ++ ys ≡ before ++ bad ∷ after → length before < length xs → Extends before bad xs
front-longer [] ys before bad after e h = absurd (omega arith)
front-longer (x ∷ xs) ys [] bad after e h = let same : x ≡ bad = cc in (xs, ap (λ b. b ∷ xs) same)
front-longer (x ∷ xs) ys (b ∷ before) bad after e h =
    let same : b ≡ x = cc in
    let tails : xs ++ ys ≡ before ++ bad ∷ after = cc in
    subst (λ c. Extends (c ∷ before) bad (x ∷ xs)) (sym same) (longer x before xs bad (front-longer xs ys before bad after tails (omega arith)))

same-front : (xs ys : List Token) (a b : Token) (more others : List Token) → xs ++ a ∷ more ≡ ys ++ b ∷ others → ¬ Extends xs a ys → ¬ Extends ys b xs → (xs ≡ ys) × (a ≡ b)
same-front [] [] a b more others e n m = (refl, cc)
same-front [] (y ∷ ys) a b more others e n m = let same : y ≡ a = cc in absurd (n (ys, ap (λ c. c ∷ ys) same))
same-front (x ∷ xs) [] a b more others e n m = let same : x ≡ b = cc in absurd (m (xs, ap (λ c. c ∷ xs) same))
same-front (x ∷ xs) (y ∷ ys) a b more others e n m =
    let same : x ≡ y = cc in
    let tails : xs ++ a ∷ more ≡ ys ++ b ∷ others = cc in
    let n' : ¬ Extends (x ∷ xs) a (x ∷ ys) = subst (λ c. ¬ Extends (x ∷ xs) a (c ∷ ys)) (sym same) n in
    let m' : ¬ Extends (x ∷ ys) b (x ∷ xs) = subst (λ c. ¬ Extends (c ∷ ys) b (x ∷ xs)) (sym same) m in
    let h = same-front xs ys a b more others tails (λ p. n' (longer x xs ys a p)) (λ p. m' (longer x ys xs b p)) in
    let fronts : xs ≡ ys = h.0 in
    (cc, h.1)

-- what begins a program goes on after a front with no bad token
not-bad : (before : List Token) (bad : Token) (ys : List Token) → ¬ Begins (before ++ bad ∷ []) → Begins ys → ¬ Extends before bad ys
not-bad before bad ys none b (more, e) = none (begins-with ys before bad more e b)

same-bad : (tokens : List Token) (a b : ℕ) (p : BadAt tokens a) (q : BadAt tokens b) → (p.before ≡ q.before) × (p.bad ≡ q.bad)
same-bad tokens a b p q =
    same-front p.before q.before p.bad q.bad p.after q.after (sym p.whole ∙ q.whole) (not-bad p.before p.bad q.before p.none q.begins) (not-bad q.before q.bad p.before q.none p.begins)

pub one-front : OneFront
one-front tokens a b p q = (same-bad tokens a b p q).0

-- so there is one place
pub one-place : (tokens : List Token) (a b : ℕ) → BadAt tokens a → BadAt tokens b → a ≡ b
one-place tokens a b p q = p.place ∙ ap (λ t. t.span.start) (same-bad tokens a b p q).1 ∙ sym q.place

-- what begins a program has no bad token
pub none-bad : (tokens : List Token) (at : ℕ) → Begins tokens → ¬ BadAt tokens at
none-bad tokens at b p = p.none (begins-with tokens p.before p.bad p.after p.whole b)

pub no-end-is-bad : NoEndIsBad
no-end-is-bad tokens at early p = none-bad tokens at early.begins p
