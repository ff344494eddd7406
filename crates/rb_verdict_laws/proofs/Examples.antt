-- The verdicts of the examples.
use Rattle.std.proofs.Common.{◌≡◌, ◌≢◌, inl, ℕ, zero, suc, true, ◌+◌, ◌≤◌, List, [], ◌∷◌, ◌++◌, codes, length, take, drop, None, refl, sym, ap, subst, ◌∙◌, take-append-drop, arith}
use Rattle.rb_tree.specs.Tokens.{shape_of}
use Rattle.rb_tree.specs.Trees.{span_of}
use Rattle.rb_tree.specs.Nodes as tree
use Rattle.rb_tree.specs.declared.syntax.Tree.{Tree}
use Rattle.rb_tree.specs.declared.syntax.Unary.TheVariants as unary
use Rattle.rb_tree.specs.declared.token.Token.{Token}
use Rattle.rb_tree.specs.declared.token.TokenKind.TheVariants as kind
use Rattle.rb_weight.specs.Scans as scans
use Rattle.rb_weight.specs.Scans.{first_too_deep}
use Rattle.rb_weight.specs.Sorts.{sort_of}
use Rattle.rb_weight.specs.Effects as effects
use Rattle.rb_weight.specs.Weights.{DeepAt, IsFirstDeep, Nest, nest_after, weight_after, weight_of, within}
use Rattle.rb_weight.specs.declared.effect.Before.TheVariants as before
use Rattle.rb_weight.specs.declared.effect.Level.TheVariants as level
use Rattle.rb_weight.proofs.Alike.{first-deep}
use Rattle.rb_rules.specs.Spans.{across}
use Rattle.rb_rules.specs.Forms.{Top}
use Rattle.rb_rules.specs.Grammar.{BadAt, Begins, Derives, DerivesLevel, DerivesPrefixed, DerivesTerm, body_of}
use Rattle.rb_rules.specs.Grammar.Gap.{Closed}
use Rattle.rb_rules.specs.Grammar.DerivesBody.{Statements}
use Rattle.rb_rules.specs.Grammar.DerivesMore.{NoMore}
use Rattle.rb_rules.specs.Grammar.DerivesStatement.{Simply}
use Rattle.rb_rules.specs.Grammar.DerivesModified.{Unmodified}
use Rattle.rb_rules.specs.Grammar.DerivesSimple.{Valued}
use Rattle.rb_rules.specs.Grammar.DerivesValue.{Term}
use Rattle.rb_rules.specs.Grammar.DerivesTerm.{Operated}
use Rattle.rb_rules.specs.Grammar.DerivesLevel.{Tighter, Plainly}
use Rattle.rb_rules.specs.Grammar.DerivesPrefixed.{Prefixed, Posted}
use Rattle.rb_rules.specs.Grammar.DerivesOperand.{Bare}
use Rattle.rb_rules.specs.Grammar.DerivesPrimary.{WholeNumber}
use Rattle.rb_weight_laws.proofs.Laws.{programs-are-deep-by-roles}
use Rattle.rb_grammar.specs.Examples.{SUM, SUM_TREE, from_to, token}
use Rattle.rb_grammar.proofs.Examples.{examples}
use Rattle.rb_refusal_laws.specs.Examples.{AWAITED, CLOSED}
use Rattle.rb_refusal_laws.proofs.Examples.{bracket-is-bad, name-is-awaited}
use Rattle.rb_refusal_laws.proofs.Fronts.{front-begins}
use Rattle.rb_refusal_laws.proofs.Places.{derived-begins}
use Rattle.rb_verdict_laws.specs.Verdicts.{IsBadToken}
use Rattle.rb_verdict_laws.specs.Examples.{SumIsProgram, BracketIsBad, NameIsWanted, NegationIsDeep, negations}
use Rattle.rb_verdict_laws.proofs.Verdicts.{bad-said, short-said, deep-said}

-- ---- a program

sum-is-light : first_too_deep SUM 0 0 0 ≡ None
unfolding shape_of sort_of effects.effect_of effects.after effects.after_plain scans.done
sum-is-light = refl

pub sum-is-program : SumIsProgram
sum-is-program =
    let derives : Derives SUM SUM_TREE = examples.0 in
    let light : (turn : ℕ) → ¬ DeepAt SUM 0 0 turn = subst (IsFirstDeep SUM 0 0 0) sum-is-light (first-deep SUM 0 0 0 (omega arith) (omega arith)) in
    record { derives = derives; light = λ turn d. light turn ((programs-are-deep-by-roles SUM SUM_TREE derives turn).1 d) }

-- ---- refused for what they are

not-two : (n : ℕ) → n ≢ 2 → 2 ≡ n → ⊥
not-two n other e = other (sym e)

-- the token that begins at 2 is the second
second : (before : List Token) (bad : Token) (after : List Token) → CLOSED ≡ before ++ bad ∷ after → 2 ≡ bad.span.start → length before ≡ 1
second [] bad after e place = let is : token (kind.Whole (codes "1")) 0 1 ≡ bad = cc in absurd (not-two 0 (λ e. absurd (omega arith)) (place ∙ ap (λ (u : Token). u.span.start) (sym is)))
second (x ∷ []) bad after e place = refl
second (x ∷ y ∷ []) bad after e place =
    let rest : token kind.CloseParen 2 3 ∷ token (kind.Whole (codes "2")) 4 5 ∷ [] ≡ y ∷ bad ∷ after = cc in
    let last : token (kind.Whole (codes "2")) 4 5 ∷ [] ≡ bad ∷ after = cc in
    let is : token (kind.Whole (codes "2")) 4 5 ≡ bad = cc in
    absurd (not-two 4 (λ e. absurd (omega arith)) (place ∙ ap (λ (u : Token). u.span.start) (sym is)))
second (x ∷ y ∷ z ∷ []) bad after e place =
    let rest : token kind.CloseParen 2 3 ∷ token (kind.Whole (codes "2")) 4 5 ∷ [] ≡ y ∷ z ∷ bad ∷ after = cc in
    let last : token (kind.Whole (codes "2")) 4 5 ∷ [] ≡ z ∷ bad ∷ after = cc in
    let none : [] ≡ bad ∷ after = cc in
    absurd (cc)
second (x ∷ y ∷ z ∷ w ∷ more) bad after e place =
    let rest : token kind.CloseParen 2 3 ∷ token (kind.Whole (codes "2")) 4 5 ∷ [] ≡ y ∷ z ∷ w ∷ (more ++ bad ∷ after) = cc in
    let last : token (kind.Whole (codes "2")) 4 5 ∷ [] ≡ z ∷ w ∷ (more ++ bad ∷ after) = cc in
    let none : [] ≡ w ∷ (more ++ bad ∷ after) = cc in
    absurd (cc)

pub bracket-is-bad-token : BracketIsBad
bracket-is-bad-token =
    let p : BadAt CLOSED 2 = bracket-is-bad.0 in
    subst (λ n. IsBadToken CLOSED n) (second p.before p.bad p.after p.whole p.place) (bad-said CLOSED 2 p bracket-is-bad.1)

pub name-is-wanted : NameIsWanted
name-is-wanted = short-said AWAITED 2 name-is-awaited.0 name-is-awaited.1

-- ---- too deep

-- the tree of such an expression
negated : ℕ → ℕ → Tree
negated at zero = tree.Whole None (codes "1") (from_to at (at + 1))
negated at (suc n) = tree.Unary unary.Not (negated (at + 1) n) (across (from_to at (at + 1)) (span_of (negated (at + 1) n)))

negation-derives : (at n : ℕ) → DerivesPrefixed true (negated at n) (negations at n) []
unfolding shape_of negated
negation-derives at zero = Posted true _ (negated at zero) [] (negations at zero) [] (Bare true _ (negated at zero) (negations at zero) [] (WholeNumber true _ (codes "1") [] refl))
negation-derives at (suc n) = Prefixed true (token kind.Not at (at + 1)) unary.Not (negated (at + 1) n) (negations (at + 1) n) [] (inl (refl, refl)) (λ e. absurd (cc)) (negation-derives (at + 1) n)

-- what binds tightest is a term
term-of : {t : Tree} {xs ys : List Token} → DerivesLevel 9 true t xs ys → DerivesTerm true t xs ys
term-of {t = t} {xs = xs} {ys = ys} d =
    let sum : DerivesLevel 6 true t xs ys = Tighter 6 true t xs ys (omega arith) (Tighter 7 true t xs ys (omega arith) (Tighter 8 true t xs ys (omega arith) d)) in
    let order : DerivesLevel 3 true t xs ys = Tighter 3 true t xs ys (omega arith) (Tighter 4 true t xs ys (omega arith) (Tighter 5 true t xs ys (omega arith) sum)) in
    Operated true t xs ys (Tighter 0 true t xs ys (omega arith) (Tighter 1 true t xs ys (omega arith) (Tighter 2 true t xs ys (omega arith) order)))

whole-derives : (at n : ℕ) → Derives (negations at n) (body_of (negated at n ∷ []))
whole-derives at n =
    let t = negated at n in
    let xs = negations at n in
    let d : DerivesTerm true t xs [] = term-of (Plainly true t xs [] (negation-derives at n)) in
    Statements Top true t [] xs xs [] [] [] (Closed xs) (Simply Top true t t xs [] [] (Valued true true t xs [] (Term true true t xs [] d)) (Unmodified true t [])) (NoMore Top true []) (Closed [])

-- so many operators stand in a program
standing : ℕ → Nest
standing n = record { levels = record { level = level.Plain; standing = n } ∷ []; before = before.Plain }

each-counts : (at n k s : ℕ) → k ≤ n → nest_after (standing s) (take k (negations at n)) ≡ standing (s + k)
unfolding shape_of sort_of effects.effect_of effects.after effects.after_plain within standing
each-counts at n zero s le = let e : s ≡ s + 0 = omega arith in ap standing e
each-counts at zero (suc k) s le = absurd (let h : ⊥ = omega arith in h)
each-counts at (suc n) (suc k) s le = let e : (s + 1) + k ≡ s + suc k = omega arith in each-counts (at + 1) n k (s + 1) (omega arith) ∙ ap standing e

each-weighs : (at n k : ℕ) → k ≤ n → weight_after 0 0 (take k (negations at n)) ≡ k
unfolding standing
each-weighs at n k le = ap (λ (m : Nest). weight_of 0 m.levels) (each-counts at n k 0 le) ∙ (let e : 0 + 0 + (0 + k + 0) ≡ k = omega arith in e)

size : (at n : ℕ) → length (negations at n) ≡ n + 1
size at zero = refl
size at (suc n) = let e : length (negations (at + 1) n) ≡ n + 1 = size (at + 1) n in omega arith

negation-deep : (at n : ℕ) → n ≡ 201 → DeepAt (negations at n) 0 0 200
negation-deep at n e = record {
  within = let h = size at n in omega arith;
  deep = let h : weight_after 0 0 (take (200 + 1) (negations at n)) ≡ 200 + 1 = each-weighs at n (200 + 1) (omega arith) in omega arith;
  first = λ k le. let h : weight_after 0 0 (take k (negations at n)) ≡ k = each-weighs at n k (omega arith) in omega arith;
}

pub negation-is-deep : NegationIsDeep
negation-is-deep = deep-said (negations 0 201) 200 (negation-deep 0 201 refl) (begun (negations 0 201) (body_of (negated 0 201 ∷ [])) (whole-derives 0 201))
  where
    begun : (tokens : List Token) (t : Tree) → Derives tokens t → Begins (take (200 + 1) tokens)
    begun tokens t d = front-begins (take (200 + 1) tokens) (drop (200 + 1) tokens) (subst Begins (sym (take-append-drop (200 + 1) tokens)) (derived-begins tokens t d))
