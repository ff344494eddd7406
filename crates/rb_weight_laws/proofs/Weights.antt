-- The weight that the pass keeps is that of the roles which it tells.
use Rattle.std.proofs.Common.{◌≡◌, ℕ, zero, suc, ◌+◌, List, [], ◌∷◌, length, take, refl, ap, ◌∙◌, arith}
use Rattle.rb_tree.specs.Tokens.{shape_of}
use Rattle.rb_tree.specs.declared.token.Token.{Token}
use Rattle.rb_weight.specs.Sorts.{sort_of}
use Rattle.rb_weight.specs.Effects.{effect_of, after}
use Rattle.rb_weight.specs.Weights.{Open, Nest, innermost, next, nest_after, operators, weight_of, begun, weight_after}
use Rattle.rb_weight.specs.Weights.{within as within_open}
use Rattle.rb_weight.specs.declared.effect.Before.{Before}
use Rattle.rb_weight.specs.declared.effect.Before.TheVariants as before
use Rattle.rb_weight.specs.declared.effect.Level.{Level}
use Rattle.rb_weight.specs.declared.effect.Level.TheVariants as level
use Rattle.rb_weight.specs.declared.effect.Effect.{Effect}
use Rattle.rb_weight.specs.declared.effect.Effect.TheVariants as effect
use Rattle.rb_weight_laws.specs.Roles.{Role}
use Rattle.rb_weight_laws.specs.Weights.{within, levels_after, total, weight_of_levels, weight_by}
use Rattle.rb_weight_laws.specs.Laws.{role_of, roles_told}
use Rattle.rb_weight_laws.proofs.Steps.{kinds_within, told}

abbrev nest : Before → List Open → Nest
nest b os = record { levels = os; before = b }

-- ---- by the kinds of levels alone the same roles are told

abbrev kinds : List Open → List Level
kinds [] = []
kinds (o ∷ os) = o.level ∷ kinds os

kinds-within : (e : Effect) (o : Open) (os : List Open) → kinds (within_open e o os) ≡ kinds_within e o.level (kinds os)
unfolding within_open kinds_within
kinds-within effect.Nothing o os = refl
kinds-within (effect.Opens l) o os = refl
kinds-within effect.Closes o os = refl
kinds-within effect.Enters o os = refl
kinds-within effect.Separates o os = refl
kinds-within effect.Divides o os = refl
kinds-within effect.Counts o os = refl

pub same-told : (b : Before) (os : List Open) (ts : List Token) → roles_told (nest b os) ts ≡ told b (kinds os) ts
same-told b os [] = refl
same-told b [] (t ∷ ts) =
    let s = sort_of (shape_of t.kind) in
    ap (λ (rs : List Role). role_of (effect_of b level.Plain s) ∷ rs) (same-told (after b level.Plain s) [] ts)
same-told b (o ∷ os) (t ∷ ts) =
    let s = sort_of (shape_of t.kind) in
    let e = effect_of b o.level s in
    ap (λ (rs : List Role). role_of e ∷ rs) (same-told (after b o.level s) (within_open e o os) ts ∙ ap (λ (ls : List Level). told (after b o.level s) ls ts) (kinds-within e o os))

-- ---- the levels and their numbers

abbrev numbers : List Open → List ℕ
numbers [] = []
numbers (o ∷ os) = o.standing ∷ numbers os

numbers-within : (e : Effect) (o : Open) (os : List Open) → numbers (within_open e o os) ≡ within (role_of e) o.standing (numbers os)
unfolding within_open within role_of
numbers-within effect.Nothing o os = refl
numbers-within (effect.Opens l) o os = refl
numbers-within effect.Closes o os = refl
numbers-within effect.Enters o os = refl
numbers-within effect.Separates o os = refl
numbers-within effect.Divides o os = refl
numbers-within effect.Counts o os = refl

numbers-after : (b : Before) (os : List Open) (ts : List Token) → numbers (nest_after (nest b os) ts).levels ≡ levels_after (numbers os) (roles_told (nest b os) ts)
numbers-after b os [] = refl
numbers-after b [] (t ∷ ts) = let s = sort_of (shape_of t.kind) in numbers-after (after b level.Plain s) [] ts
numbers-after b (o ∷ os) (t ∷ ts) =
    let s = sort_of (shape_of t.kind) in
    let e = effect_of b o.level s in
    let n = nest (after b o.level s) (within_open e o os) in
    numbers-after (after b o.level s) (within_open e o os) ts ∙ ap (λ (ns : List ℕ). levels_after ns (roles_told n ts)) (numbers-within e o os)

length-numbers : (os : List Open) → length (numbers os) ≡ length os
length-numbers [] = refl
length-numbers (o ∷ os) = ap suc (length-numbers os)

total-numbers : (os : List Open) → total (numbers os) ≡ operators os
total-numbers [] = refl
total-numbers (o ∷ os) = ap (λ (n : ℕ). o.standing + n) (total-numbers os)

weight-of-numbers : (os : List Open) → weight_of 0 os ≡ weight_of_levels (numbers os)
weight-of-numbers [] = refl
weight-of-numbers (o ∷ os) =
    let l : length (numbers os) ≡ length os = length-numbers os in
    let n : total (numbers os) ≡ operators os = total-numbers os in
    omega arith

-- ---- the weight

pub weight-told : (ts : List Token) → weight_after 0 0 ts ≡ weight_by (roles_told (begun 0) ts)
weight-told ts =
    let o : Open = record { level = level.Plain; standing = 0 } in
    weight-of-numbers (nest_after (nest before.Plain (o ∷ [])) ts).levels ∙ ap weight_of_levels (numbers-after before.Plain (o ∷ []) ts)

pub take-told : (k : ℕ) (n : Nest) (ts : List Token) → roles_told n (take k ts) ≡ take k (roles_told n ts)
take-told zero n ts = refl
take-told (suc k) n [] = refl
take-told (suc k) n (t ∷ ts) = ap (λ (rs : List Role). role_of (effect_of n.before (innermost n.levels) (sort_of (shape_of t.kind))) ∷ rs) (take-told k (next (shape_of t.kind) n) ts)

pub length-told : (n : Nest) (ts : List Token) → length (roles_told n ts) ≡ length ts
length-told n [] = refl
length-told n (t ∷ ts) = ap suc (length-told (next (shape_of t.kind) n) ts)
