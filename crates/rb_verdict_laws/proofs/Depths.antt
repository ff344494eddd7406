-- The first deep token of a list, and of its fronts.
use Rattle.std.proofs.Common.{◌≡◌, ◌⊎◌, inl, inr, ℕ, zero, suc, ◌+◌, ◌<◌, ◌≤◌, List, [], ◌∷◌, ◌++◌, length, slice_get, take, drop, Some, refl, sym, subst, take-append-drop, length-append, arith}
use Rattle.std.proofs.lemmas.List.{take-append-le}
use Rattle.rb_tree.specs.declared.token.Token.{Token}
use Rattle.rb_weight.specs.Limits.{MOST}
use Rattle.rb_weight.specs.Weights.{DeepAt, weight_after}
use Rattle.rb_rules.specs.Grammar.{Begins}
use Rattle.rb_weight_laws.proofs.Laws.{fronts-are-deep-by-roles}
use Rattle.rb_refusal_laws.proofs.Fronts.{front-begins}
use Rattle.rb_verdict_laws.specs.Verdicts.{NoneIsDeep}

pub order : (m n : ℕ) → (m ≤ n) ⊎ (n < m)
order zero n = inl (omega arith)
order (suc m) zero = inr (omega arith)
order (suc m) (suc n) = next (order m n)
  where
    next : (m ≤ n) ⊎ (n < m) → (suc m ≤ suc n) ⊎ (suc n < suc m)
    next (inl h) = inl (omega arith)
    next (inr h) = inr (omega arith)

-- ---- fronts

-- the first deep token of a front is that of the whole
pub deep-further : (xs ys : List Token) (turn : ℕ) → DeepAt xs 0 0 turn → DeepAt (xs ++ ys) 0 0 turn
deep-further xs ys turn d = record {
  within = let h : turn < length xs = d.within in omega (arith, length-append xs ys);
  deep = let h : turn < length xs = d.within in subst (λ us. MOST < weight_after 0 0 us) (sym (take-append-le (turn + 1) xs ys (omega arith))) d.deep;
  first = λ k le. let h : turn < length xs = d.within in subst (λ us. weight_after 0 0 us ≤ MOST) (sym (take-append-le k xs ys (omega arith))) (d.first k le);
}

-- the first deep token of the whole is that of a front in which it stands
pub deep-nearer : (xs ys : List Token) (turn : ℕ) → turn < length xs → DeepAt (xs ++ ys) 0 0 turn → DeepAt xs 0 0 turn
deep-nearer xs ys turn h d = record {
  within = h;
  deep = subst (λ us. MOST < weight_after 0 0 us) (take-append-le (turn + 1) xs ys (omega arith)) d.deep;
  first = λ k le. subst (λ us. weight_after 0 0 us ≤ MOST) (take-append-le k xs ys (omega arith)) (d.first k le);
}

-- the tokens up to and with one of a front begin a program where the front does
pub fronts-begin : (xs ys : List Token) (turn : ℕ) → turn < length xs → Begins xs → Begins (take (turn + 1) (xs ++ ys))
fronts-begin xs ys turn h b =
    let few : take (turn + 1) (xs ++ ys) ≡ take (turn + 1) xs = take-append-le (turn + 1) xs ys (omega arith) in
    subst Begins (sym few) (front-begins (take (turn + 1) xs) (drop (turn + 1) xs) (subst Begins (sym (take-append-drop (turn + 1) xs)) b))

-- the token after a front
pub got-after : (xs : List Token) (a : Token) (ys : List Token) → slice_get (xs ++ a ∷ ys) (length xs) ≡ Some a
got-after [] a ys = refl
got-after (x ∷ xs) a ys = got-after xs a ys

-- ---- by the roles

-- where none is deep by the roles, none is by the pass
pub light-by-pass : (xs : List Token) (b : Begins xs) → NoneIsDeep xs b → (turn : ℕ) → ¬ DeepAt xs 0 0 turn
light-by-pass xs b light turn d = let h : turn < length xs = d.within in light turn h ((fronts-are-deep-by-roles xs b turn h).0 d)

pub light-by-roles : (xs : List Token) (b : Begins xs) → ((turn : ℕ) → ¬ DeepAt xs 0 0 turn) → NoneIsDeep xs b
light-by-roles xs b light turn h d = light turn ((fronts-are-deep-by-roles xs b turn h).1 d)

-- ---- one token

none-deep-after : (tokens : List Token) (a b : ℕ) → DeepAt tokens 0 0 a → DeepAt tokens 0 0 b → a < b → ⊥
none-deep-after tokens a b p q less = let light = q.first (a + 1) (omega arith) in let deep = p.deep in absurd (omega arith)

pub one-deep : (tokens : List Token) (a b : ℕ) → DeepAt tokens 0 0 a → DeepAt tokens 0 0 b → a ≡ b
one-deep tokens a b p q = by (order a b) (order b a)
  where
    by : (a ≤ b) ⊎ (b < a) → (b ≤ a) ⊎ (a < b) → a ≡ b
    by (inl h) (inl k) = omega arith
    by (inr h) k = absurd (none-deep-after tokens b a q p h)
    by (inl h) (inr k) = absurd (none-deep-after tokens a b p q k)
