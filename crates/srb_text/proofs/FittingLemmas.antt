-- The characters that fit into a budget: of a text in two parts, and as a front of the text.
use Rattle.std.proofs.Common.{◌≡◌, ℕ, ◌+◌, ◌-◌, ◌<◌, ◌≤◌, true, false, nat_le, List, [], ◌∷◌, ◌++◌, length, drop, refl, sym, ap, ◌∙◌, ⊎_elim, arith}
use Rattle.std.proofs.lemmas.Bool.{le-leb, lt-leb, cases_lt}
use Rattle.std.proofs.lemmas.List.Sums.{sum_by-cons, sum_by-append}
use Rattle.std.specs.List.{sum_by}
use Rattle.srb_text.specs.Positions.{fitting}

module _ (f : ℕ → ℕ) where
  -- one character fits, or none does
  pub fitting_more : (k c : ℕ) (cs : List ℕ) → f c ≤ k → fitting f k (c ∷ cs) ≡ c ∷ fitting f (k - f c) cs
  fitting_more k c cs h = let fits : nat_le (f c) k ≡ true = le-leb (f c) k h in rw fits

  pub fitting_none : (k c : ℕ) (cs : List ℕ) → k < f c → fitting f k (c ∷ cs) ≡ []
  fitting_none k c cs h = let full : nat_le (f c) k ≡ false = lt-leb (f c) k h in rw full

  -- what fits takes no more than the budget
  pub sum_by-fitting-le : (k : ℕ) (cs : List ℕ) → sum_by f (fitting f k cs) ≤ k
  sum_by-fitting-le k [] = omega arith
  sum_by-fitting-le k (c ∷ cs) =
      ⊎_elim (λ (h : k < f c). let e : sum_by f (fitting f k (c ∷ cs)) ≡ 0 = ap (sum_by f) (fitting_none k c cs h) in omega (arith, e))
      (λ (h : f c ≤ k). let e : sum_by f (fitting f k (c ∷ cs)) ≡ f c + sum_by f (fitting f (k - f c) cs) = ap (sum_by f) (fitting_more k c cs h) ∙ sum_by-cons f c (fitting f (k - f c) cs) in
      omega (arith, e, sum_by-fitting-le (k - f c) cs))
      (cases_lt k (f c))

  -- what fits stands at the front
  pub fitting_split : (k : ℕ) (cs : List ℕ) → fitting f k cs ++ drop (length (fitting f k cs)) cs ≡ cs
  fitting_split k [] = refl
  fitting_split k (c ∷ cs) =
      ⊎_elim (λ (h : k < f c). let e = fitting_none k c cs h in rw e)
      (λ (h : f c ≤ k). let e = fitting_more k c cs h in rw e (ap (λ (v : List ℕ). c ∷ v) (fitting_split (k - f c) cs)))
      (cases_lt k (f c))

  -- all of the first part fits
  pub fitting-append_all : (k : ℕ) (xs ys : List ℕ) → sum_by f xs ≤ k → fitting f k (xs ++ ys) ≡ xs ++ fitting f (k - sum_by f xs) ys
  fitting-append_all k [] ys h = let less : k - 0 ≡ k = omega arith in rw less
  fitting-append_all k (x ∷ xs) ys h =
      let total = sum_by-cons f x xs in
      let left : k - f x - sum_by f xs ≡ k - sum_by f (x ∷ xs) = omega (arith, total) in
      fitting_more k x (xs ++ ys) (omega (arith, total))
      ∙ ap (λ (v : List ℕ). x ∷ v) (fitting-append_all (k - f x) xs ys (omega (arith, total)) ∙ ap (λ (n : ℕ). xs ++ fitting f n ys) left)

  -- not all of it fits
  pub fitting-append_some : (k : ℕ) (xs ys : List ℕ) → k < sum_by f xs → fitting f k (xs ++ ys) ≡ fitting f k xs
  fitting-append_some k [] ys h = absurd (omega arith)
  fitting-append_some k (x ∷ xs) ys h =
      let total = sum_by-cons f x xs in
      ⊎_elim (λ (g : k < f x). fitting_none k x (xs ++ ys) g ∙ sym (fitting_none k x xs g))
      (λ (g : f x ≤ k). fitting_more k x (xs ++ ys) g ∙ ap (λ (v : List ℕ). x ∷ v) (fitting-append_some (k - f x) xs ys (omega (arith, total))) ∙ sym (fitting_more k x xs g))
      (cases_lt k (f x))

  -- the whole fits
  pub fitting_whole : (k : ℕ) (xs : List ℕ) → sum_by f xs ≤ k → fitting f k xs ≡ xs
  fitting_whole k [] h = refl
  fitting_whole k (x ∷ xs) h =
      let total = sum_by-cons f x xs in
      fitting_more k x xs (omega (arith, total)) ∙ ap (λ (v : List ℕ). x ∷ v) (fitting_whole (k - f x) xs (omega (arith, total)))

  -- a front takes exactly what it takes
  pub sum_by-fitting-front : (xs ys : List ℕ) → sum_by f (fitting f (sum_by f xs) (xs ++ ys)) ≡ sum_by f xs
  sum_by-fitting-front xs ys =
      let parts : fitting f (sum_by f xs) (xs ++ ys) ≡ xs ++ fitting f (sum_by f xs - sum_by f xs) ys = fitting-append_all (sum_by f xs) xs ys (omega arith) in
      omega (arith, ap (sum_by f) parts, sum_by-append f xs (fitting f (sum_by f xs - sum_by f xs) ys), sum_by-fitting-le (sum_by f xs - sum_by f xs) ys)

  -- an offset at a start in the second part, or in the first
  pub start_past : (at : ℕ) (xs ys : List ℕ) → sum_by f xs ≤ at → sum_by f (fitting f at (xs ++ ys)) ≡ at → sum_by f (fitting f (at - sum_by f xs) ys) ≡ at - sum_by f xs
  start_past at xs ys h e =
      omega (arith, e, ap (sum_by f) (fitting-append_all at xs ys h), sum_by-append f xs (fitting f (at - sum_by f xs) ys))

  pub start_before : (at : ℕ) (xs ys : List ℕ) → at < sum_by f xs → sum_by f (fitting f at (xs ++ ys)) ≡ at → sum_by f (fitting f at xs) ≡ at
  start_before at xs ys h e = omega (arith, e, ap (sum_by f) (fitting-append_some at xs ys h))

  pub start_after : (k : ℕ) (xs ys : List ℕ) → sum_by f (fitting f k ys) ≡ k → sum_by f (fitting f (sum_by f xs + k) (xs ++ ys)) ≡ sum_by f xs + k
  start_after k xs ys e =
      let left : sum_by f xs + k - sum_by f xs ≡ k = omega arith in
      let parts : fitting f (sum_by f xs + k) (xs ++ ys) ≡ xs ++ fitting f k ys = fitting-append_all (sum_by f xs + k) xs ys (omega arith) ∙ ap (λ (n : ℕ). xs ++ fitting f n ys) left in
      omega (arith, e, ap (sum_by f) parts, sum_by-append f xs (fitting f k ys))
