-- Sums over all seats, where one seat changes or one is added, and facts that each seat meets.
use Rattle.std.proofs.Common.{◌≡◌, ◌≢◌, ◌⊎◌, ℕ, zero, suc, ◌+◌, ◌<◌, ◌≤◌, List, [], ◌∷◌, ◌++◌, set, sym, refl, ap, ◌∙◌, subst, inl, inr, ⊎_elim, arith}
use mathlib.Core.Option.{some, some-injective, some-ne-none}
use lib.ListN.{get_elem?}
use Rattle.std.specs.List.{sum_by}
use Rattle.std.proofs.lemmas.List.Sums.{sum_by-cons}
use Rattle.atomic_table.proofs.Lists.{at_set, at_snoc, set_else}

either_some : (a b : ℕ) → 0 < a + b → (0 < a) ⊎ (0 < b)
either_some zero b some_there = inr (omega arith)
either_some (suc a) b some_there = inl (omega arith)

module _ {X : Type 0} where
  abbrev pub Each : (X → Type 0) → List X → Type 0
  Each P xs = (i : ℕ) (v : X) → get_elem? xs i ≡ some v → P v

  pub each_set : (P : X → Type 0) (xs : List X) (i : ℕ) (w : X) → P w → Each P xs → Each P (set xs i w)
  each_set P xs i w mine each j u at = ⊎_elim (λ (same : (j ≡ i) × (w ≡ u)). subst P same.1 mine) (λ (other : (j ≢ i) × (get_elem? xs j ≡ some u)). each j u other.1) (at_set xs i j w u at)

  pub each_push : (P : X → Type 0) (xs : List X) (w : X) → P w → Each P xs → Each P (xs ++ w ∷ [])
  each_push P xs w mine each j u at = ⊎_elim (λ (old : get_elem? xs j ≡ some u). each j u old) (λ (new : w ≡ u). subst P new mine) (at_snoc xs w u j at)

  module _ (f : X → ℕ) where
    pub total_set : (xs : List X) (i : ℕ) (v w : X) → get_elem? xs i ≡ some v → sum_by f (set xs i w) + f v ≡ sum_by f xs + f w
    total_set [] i v w at = absurd (some-ne-none v (sym at))
    total_set (x ∷ xs) zero v w at = omega (arith, sum_by-cons f w xs, sum_by-cons f x xs, ap f (some-injective x v at))
    total_set (x ∷ xs) (suc i) v w at = omega (arith, sum_by-cons f x (set xs i w), sum_by-cons f x xs, total_set xs i v w at)

    pub total_at : (xs : List X) (i : ℕ) (v : X) → get_elem? xs i ≡ some v → f v ≤ sum_by f xs
    total_at [] i v at = absurd (some-ne-none v (sym at))
    total_at (x ∷ xs) zero v at = omega (arith, sum_by-cons f x xs, ap f (some-injective x v at))
    total_at (x ∷ xs) (suc i) v at = omega (arith, sum_by-cons f x xs, total_at xs i v at)

    -- two elements count for no more than all
    pub total_two : (nothing : X) (xs : List X) (i j : ℕ) (v w : X) → f nothing ≡ 0 → i ≢ j → get_elem? xs i ≡ some v → get_elem? xs j ≡ some w → f v + f w ≤ sum_by f xs
    total_two nothing xs i j v w none apart at at' =
        let others = total_set xs i v nothing at in
        let there = total_at (set xs i nothing) j w (set_else xs i j nothing (λ e. apart (sym e)) ∙ at') in
        omega (arith, others, there, none)

    -- where the sum is positive, some element counts
    pub total_some : (xs : List X) → 0 < sum_by f xs → (i : ℕ) × (v : X) × (get_elem? xs i ≡ some v) × (0 < f v)
    total_some [] some_there = absurd (omega arith)
    total_some (x ∷ xs) some_there =
        ⊎_elim (λ (here : 0 < f x). (0, x, refl, here)) (λ (there : 0 < sum_by f xs). let t = total_some xs there in (suc t.0, t.1, t.2, t.3)) (either_some (f x) (sum_by f xs) (omega (arith, sum_by-cons f x xs)))

  pub total_both : (f g : X → ℕ) (xs : List X) → sum_by (λ v. f v + g v) xs ≡ sum_by f xs + sum_by g xs
  total_both f g [] = refl
  total_both f g (x ∷ xs) = omega (arith, sum_by-cons (λ v. f v + g v) x xs, sum_by-cons f x xs, sum_by-cons g x xs, total_both f g xs)

  none_counts : (f part : X → ℕ) (xs : List X) → Each (λ v. part v ≡ 0 → f v ≡ 0) xs → sum_by part xs ≡ 0 → sum_by f xs ≡ 0
  none_counts f part [] each none = refl
  none_counts f part (x ∷ xs) each none =
      let parts = sum_by-cons part x xs in
      let here = each 0 x refl (omega arith) in
      let there = none_counts f part xs (λ i. each (suc i)) (omega arith) in
      omega (arith, sum_by-cons f x xs)

  -- where one element has every part, and f is 0 of each that has none, f is all of that one
  pub alone : (f part : X → ℕ) (nothing : X) (xs : List X) (i : ℕ) (v : X) → part nothing ≡ 0 → f nothing ≡ 0 → Each (λ v. part v ≡ 0 → f v ≡ 0) xs → get_elem? xs i ≡ some v → sum_by part xs ≡ part v → sum_by f xs ≡ f v
  alone f part nothing xs i v none zero_of each at all =
      let parts = total_set part xs i v nothing at in
      let others = none_counts f part (set xs i nothing) (each_set (λ v. part v ≡ 0 → f v ≡ 0) xs i nothing (λ _. zero_of) each) (omega (arith, parts, none, all)) in
      omega (arith, total_set f xs i v nothing at, others, zero_of)
