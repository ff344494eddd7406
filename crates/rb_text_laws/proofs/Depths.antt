-- Where the first deep token stands, and that it is no piece of a string.
use Rattle.std.proofs.Common.{◌≡◌, ℕ, suc, ◌+◌, ◌<◌, ◌≤◌, ◌⊎◌, List, [], ◌∷◌, ◌++◌, length, take, inl, inr, refl, ap, subst, ◌∙◌, arith}
use Rattle.std.proofs.Math.Seq.{take-append_seam}
use Rattle.rb_tree.specs.Tokens.{shape_of}
use Rattle.rb_tree.specs.declared.token.Token.{Token}
use Rattle.rb_tree.specs.declared.token.Shape.{Shape}
use Rattle.rb_tree.specs.declared.token.Shape.TheVariants as shape
use Rattle.rb_rules.specs.Grammar.{Begins}
use Rattle.rb_rules.specs.Tokens.{Is}
use Rattle.rb_weight.specs.Limits.{MOST}
use Rattle.rb_weight.specs.Sorts.{sort_of}
use Rattle.rb_weight.specs.Effects.{effect_of}
use Rattle.rb_weight.specs.Weights.{Open, Nest, DeepAt, begun, next, nest_after, turned, weight_of, weight_after, within}
use Rattle.rb_weight.specs.declared.effect.Effect.TheVariants as effect
use Rattle.rb_verdict_laws.specs.Verdicts.{NoneIsDeep}
use Rattle.rb_verdict_laws.proofs.Depths.{order, deep-nearer, light-by-pass}

-- after a front in which none is deep the first deep token stands, if there is one
pub after-light : (xs ys : List Token) (begins : Begins xs) → NoneIsDeep xs begins → (turn : ℕ) → DeepAt (xs ++ ys) 0 0 turn → length xs ≤ turn
after-light xs ys begins light turn d = by (order (length xs) turn)
  where
    by : (length xs ≤ turn) ⊎ (turn < length xs) → length xs ≤ turn
    by (inl h) = h
    by (inr here) = absurd (light-by-pass xs begins light turn (deep-nearer xs ys turn here d))

-- ---- the deep token

nest-end : (n : Nest) (xs : List Token) (t : Token) → nest_after n (xs ++ t ∷ []) ≡ next (shape_of t.kind) (nest_after n xs)
nest-end n [] t = refl
nest-end n (x ∷ xs) t = nest-end (next (shape_of x.kind) n) xs t

same-levels : (os : List Open) → turned effect.Nothing os ≡ os
unfolding within
same-levels [] = refl
same-levels (o ∷ os) = refl

-- a piece of a string leaves the levels as they are
piece-levels : (n : Nest) → (next shape.Text n).levels ≡ n.levels
unfolding effect_of sort_of
piece-levels n = same-levels n.levels

piece-weighs-nothing : (xs : List Token) (t : Token) → Is shape.Text t → weight_after 0 0 (xs ++ t ∷ []) ≡ weight_after 0 0 xs
piece-weighs-nothing xs t is =
    let n : Nest = nest_after (begun 0) xs in
    let e : nest_after (begun 0) (xs ++ t ∷ []) ≡ next shape.Text n = nest-end (begun 0) xs t ∙ ap (λ (s : Shape). next s n) is in
    ap (λ (m : Nest). weight_of 0 m.levels) e ∙ ap (weight_of 0) (piece-levels n)

-- so it isn't too deep
pub deep-is-no-piece : (before : List Token) (deep : Token) → DeepAt (before ++ deep ∷ []) 0 0 (length before) → ¬ Is shape.Text deep
deep-is-no-piece before deep d is =
    let all : take (length before + 1) (before ++ deep ∷ []) ≡ before ++ deep ∷ [] = whole before deep in
    let heavy : MOST < weight_after 0 0 (before ++ deep ∷ []) = subst (λ (ts : List Token). MOST < weight_after 0 0 ts) all d.deep in
    let light : weight_after 0 0 before ≤ MOST = subst (λ (ts : List Token). weight_after 0 0 ts ≤ MOST) (take-append_seam before (deep ∷ [])) (d.first (length before) (omega arith)) in
    let same = piece-weighs-nothing before deep is in
    omega arith
  where
    whole : (xs : List Token) (t : Token) → take (length xs + 1) (xs ++ t ∷ []) ≡ xs ++ t ∷ []
    whole [] t = refl
    whole (x ∷ xs) t =
        let n : length (x ∷ xs) + 1 ≡ suc (length xs + 1) = omega arith in
        ap (λ k. take k (x ∷ (xs ++ t ∷ []))) n ∙ ap (λ (us : List Token). x ∷ us) (whole xs t)
