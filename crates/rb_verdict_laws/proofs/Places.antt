-- Of two refusals that at the lesser place.
use Rattle.std.proofs.Common.{◌≡◌, ◌⊎◌, inl, inr, ℕ, zero, suc, ◌+◌, ◌<◌, ◌≤◌, List, [], ◌∷◌, length, take, slice_get, Some, Err, sym, ap, subst, ◌∙◌, arith}
use Rattle.rb_tree.specs.declared.token.Token.{Token}
use Rattle.rb_expr.specs.declared.ParseEnd.TheVariants.{Bad, TooDeep}
use Rattle.rb_decl.specs.Programs.{parsed, token_start}
use Rattle.rb_rules.specs.Grammar.{Begins}
use Rattle.rb_refusal_laws.proofs.Refused.{bad-tokens-are-refused, deep-tokens-are-refused}
use Rattle.rb_verdict_laws.specs.Laws.{LesserPlacesAreRefused, StandInOrder}
use Rattle.rb_verdict_laws.proofs.Depths.{fronts-begin, got-after, one-deep, order}

same-token : (tokens : List Token) (k : ℕ) (a b : Token) → slice_get tokens k ≡ Some a → slice_get tokens k ≡ Some b → a ≡ b
same-token tokens k a b e f = let h : Some a ≡ Some b = sym e ∙ f in cc

-- a token begins at the place from which the tokens stand, or after it
after-from : (from : ℕ) (tokens : List Token) → StandInOrder from tokens → (j : ℕ) (b : Token) → slice_get tokens j ≡ Some b → from ≤ b.span.start
after-from from [] s j b e = absurd (cc)
after-from from (t ∷ ts) s zero b e = let is : t ≡ b = cc in subst (λ (u : Token). from ≤ u.span.start) is s.0
after-from from (t ∷ ts) s (suc j) b e = let h = after-from t.span.end ts s.2 j b e in let x = s.0 in let y = s.1 in omega arith

-- the earlier of two tokens ends before the later begins
ends-before : (from : ℕ) (tokens : List Token) → StandInOrder from tokens → (i j : ℕ) (a b : Token) → i < j → slice_get tokens i ≡ Some a → slice_get tokens j ≡ Some b → (a.span.start ≤ a.span.end) × (a.span.end ≤ b.span.start)
ends-before from [] s i j a b less e f = absurd (cc)
ends-before from (t ∷ ts) s i zero a b less e f = absurd (let h : ⊥ = omega arith in h)
ends-before from (t ∷ ts) s zero (suc j) a b less e f =
    let is : t ≡ a = cc in
    subst (λ (u : Token). (u.span.start ≤ u.span.end) × (u.span.end ≤ b.span.start)) is (s.1, after-from t.span.end ts s.2 j b f)
ends-before from (t ∷ ts) s (suc i) (suc j) a b less e f = ends-before t.span.end ts s.2 i j a b (omega arith) e f

pub lesser-places-are-refused : LesserPlacesAreRefused
lesser-places-are-refused tokens from bad turn deep stand p d got = (
  (λ less. by-order (λ le. bad-refused le) (λ later. absurd (let h = ends later in let at = place in let k : ⊥ = omega arith in k))),
  (λ less. by-order (λ le. absurd (let h = starts le in let at = place in let k : ⊥ = omega arith in k)) (λ later. deep-refused later)),
  (λ same wide. by-order (λ le. bad-refused le) (λ later. absurd (let h = ends later in let at = place in let k : ⊥ = omega arith in k))),
)
  where
    place : bad ≡ p.bad.span.start
    place = p.place

    got-bad : slice_get tokens (length p.before) ≡ Some p.bad
    got-bad = ap (λ us. slice_get us (length p.before)) p.whole ∙ got-after p.before p.bad p.after

    by-order : {A : Type 0} → (length p.before ≤ turn → A) → (turn < length p.before → A) → A
    by-order {A = A} f g = go (order (length p.before) turn)
      where
        go : (length p.before ≤ turn) ⊎ (turn < length p.before) → A
        go (inl h) = f h
        go (inr h) = g h

    bad-refused : length p.before ≤ turn → parsed tokens ≡ Err (Bad bad)
    bad-refused le = bad-tokens-are-refused tokens bad p (λ k e. let same : turn ≡ k = one-deep tokens turn k d e in omega arith)

    deep-refused : turn < length p.before → parsed tokens ≡ Err (TooDeep deep.span.start)
    deep-refused later =
        let b : Begins (take (turn + 1) tokens) = subst (λ us. Begins (take (turn + 1) us)) (sym p.whole) (fronts-begin p.before (p.bad ∷ p.after) turn later p.begins) in
        deep-tokens-are-refused tokens turn d b ∙ ap (λ o. Err (TooDeep (token_start o))) got

    -- the deep token ends before the bad one begins
    ends : turn < length p.before → (deep.span.start ≤ deep.span.end) × (deep.span.end ≤ p.bad.span.start)
    ends later = ends-before from tokens stand turn (length p.before) deep p.bad later got got-bad

    -- the bad token begins before the deep one, if it isn't the same
    starts : length p.before ≤ turn → p.bad.span.start ≤ deep.span.start
    starts le = go (order turn (length p.before))
      where
        go : (turn ≤ length p.before) ⊎ (length p.before < turn) → p.bad.span.start ≤ deep.span.start
        go (inl h) =
            let number : length p.before ≡ turn = omega arith in
            let same : p.bad ≡ deep = same-token tokens turn p.bad deep (subst (λ k. slice_get tokens k ≡ Some p.bad) number got-bad) got in
            subst (λ (u : Token). p.bad.span.start ≤ u.span.start) same (omega arith)
        go (inr h) = let k = ends-before from tokens stand (length p.before) turn p.bad deep h got-bad got in let x = k.0 in let y = k.1 in omega arith
