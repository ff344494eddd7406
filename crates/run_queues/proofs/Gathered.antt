-- What all elements of a list hold together, and their sum, where one element is replaced.
use Rattle.std.proofs.Common.{◌≡◌, ℕ, zero, suc, ◌+◌, ◌≤◌, List, [], ◌∷◌, ◌++◌, length, flat_map, sum_by, set, refl, sym, ap, ◌∙◌, subst, append_assoc, arith}
use Rattle.std.specs.List.Sorted.{IsPermutation}
use Rattle.std.proofs.lemmas.List.{append-nil, nil_from_length}
use Rattle.std.proofs.lemmas.List.Sums.{sum_by-cons}
use Rattle.std.proofs.lemmas.List.Sorted.{IsPermutation-refl, IsPermutation-trans, IsPermutation-append_comm, IsPermutation-append_left, IsPermutation-append_right}
use mathlib.Core.Option.{some, some-injective, some-ne-none}
use lib.ListN.{get_elem?}

module _ {X : Type 0} where
  pub same_permutation : (xs ys : List X) → xs ≡ ys → IsPermutation xs ys
  same_permutation xs ys e = subst (λ (z : List X). IsPermutation xs z) e (IsPermutation-refl xs)

  -- the middle of three lists goes to the front
  pub middle_first : (a b c : List X) → IsPermutation ((a ++ b) ++ c) (b ++ (a ++ c))
  middle_first a b c = subst (λ (z : List X). IsPermutation ((a ++ b) ++ c) z) (append_assoc b a c) (IsPermutation-append_left c (a ++ b) (b ++ a) (IsPermutation-append_comm a b))

  pub second_first : (a b c : List X) → IsPermutation (a ++ (b ++ c)) (b ++ (a ++ c))
  second_first a b c = subst (λ (z : List X). IsPermutation z (b ++ (a ++ c))) (append_assoc a b c) (middle_first a b c)

module _ {A X : Type 0} (f : A → List X) where
  -- the replaced element holds the same
  pub gathered_same : (l : List A) (i : ℕ) (v w : A) → get_elem? l i ≡ some v → f w ≡ f v → flat_map f (set l i w) ≡ flat_map f l
  gathered_same [] i v w at e = absurd (some-ne-none v (sym at))
  gathered_same (u ∷ us) zero v w at e = ap (λ (z : List X). z ++ flat_map f us) (e ∙ ap f (sym (some-injective u v at)))
  gathered_same (u ∷ us) (suc i) v w at e = ap (λ (z : List X). f u ++ z) (gathered_same us i v w at e)

  -- the replaced element holds more
  pub gathered_more : (l : List A) (i : ℕ) (v w : A) (ys : List X) → get_elem? l i ≡ some v → f w ≡ f v ++ ys → IsPermutation (flat_map f (set l i w)) (ys ++ flat_map f l)
  gathered_more [] i v w ys at e = absurd (some-ne-none v (sym at))
  gathered_more (u ∷ us) zero v w ys at e = let r : List X = flat_map f us in
      let same : f w ≡ f u ++ ys = e ∙ ap (λ (z : A). f z ++ ys) (sym (some-injective u v at)) in
      subst (λ (z : List X). IsPermutation (z ++ r) (ys ++ (f u ++ r))) (sym same) (middle_first (f u) ys r)
  gathered_more (u ∷ us) (suc i) v w ys at e = let r : List X = flat_map f us in
      IsPermutation-trans (f u ++ flat_map f (set us i w)) (f u ++ (ys ++ r)) (ys ++ (f u ++ r)) (IsPermutation-append_right (f u) (flat_map f (set us i w)) (ys ++ r) (gathered_more us i v w ys at e)) (second_first (f u) ys r)

  -- the replaced element holds nothing
  pub gathered_less : (l : List A) (i : ℕ) (v w : A) → get_elem? l i ≡ some v → f w ≡ [] → IsPermutation (f v ++ flat_map f (set l i w)) (flat_map f l)
  gathered_less [] i v w at e = absurd (some-ne-none v (sym at))
  gathered_less (u ∷ us) zero v w at e = let r : List X = flat_map f us in
      same_permutation (f v ++ (f w ++ r)) (f u ++ r) (ap (λ (z : List X). f v ++ (z ++ r)) e ∙ ap (λ (z : A). f z ++ r) (sym (some-injective u v at)))
  gathered_less (u ∷ us) (suc i) v w at e = let s : List X = flat_map f (set us i w) in
      IsPermutation-trans (f v ++ (f u ++ s)) (f u ++ (f v ++ s)) (f u ++ flat_map f us) (second_first (f v) (f u) s) (IsPermutation-append_right (f u) (f v ++ s) (flat_map f us) (gathered_less us i v w at e))

module _ {A : Type 0} (h : A → ℕ) where
  pub sum_set : (l : List A) (i : ℕ) (v w : A) → get_elem? l i ≡ some v → sum_by h (set l i w) + h v ≡ sum_by h l + h w
  sum_set [] i v w at = absurd (some-ne-none v (sym at))
  sum_set (u ∷ us) zero v w at = let same : h u ≡ h v = ap h (some-injective u v at) in
      let a = sum_by-cons h w us in let b = sum_by-cons h u us in
      omega arith
  sum_set (u ∷ us) (suc i) v w at = let a = sum_by-cons h u (set us i w) in let b = sum_by-cons h u us in let c = sum_set us i v w at in omega arith

  pub sum_at : (l : List A) (i : ℕ) (v : A) → get_elem? l i ≡ some v → h v ≤ sum_by h l
  sum_at [] i v at = absurd (some-ne-none v (sym at))
  sum_at (u ∷ us) zero v at = let same : h u ≡ h v = ap h (some-injective u v at) in let b = sum_by-cons h u us in omega arith
  sum_at (u ∷ us) (suc i) v at = let b = sum_by-cons h u us in let c = sum_at us i v at in omega arith

module _ {A X : Type 0} (f : A → List X) (h : A → ℕ) (small : (u : A) → length (f u) ≤ h u) where
  -- elements of no weight hold nothing
  pub gathered_none : (l : List A) → sum_by h l ≡ 0 → flat_map f l ≡ []
  gathered_none [] e = refl
  gathered_none (u ∷ us) e = let b = sum_by-cons h u us in let s = small u in
      let none : length (f u) ≡ 0 = omega arith in
      let rest : sum_by h us ≡ 0 = omega arith in
      ap (λ (z : List X). z ++ flat_map f us) (nil_from_length (f u) none) ∙ gathered_none us rest

  -- where one element has all the weight, all hold what it holds
  pub gathered_whole : (l : List A) (i : ℕ) (v : A) → get_elem? l i ≡ some v → sum_by h l ≡ h v → flat_map f l ≡ f v
  gathered_whole [] i v at e = absurd (some-ne-none v (sym at))
  gathered_whole (u ∷ us) zero v at e = let same : u ≡ v = some-injective u v at in let weight : h u ≡ h v = ap h same in let b = sum_by-cons h u us in
      let rest : sum_by h us ≡ 0 = omega arith in
      ap (λ (z : List X). f u ++ z) (gathered_none us rest) ∙ append-nil (f u) ∙ ap f same
  gathered_whole (u ∷ us) (suc i) v at e = let b = sum_by-cons h u us in let s = small u in let c = sum_at h us i v at in
      let none : length (f u) ≡ 0 = omega arith in
      let rest : sum_by h us ≡ h v = omega arith in
      ap (λ (z : List X). z ++ flat_map f us) (nil_from_length (f u) none) ∙ gathered_whole us i v at rest
