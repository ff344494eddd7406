-- A product that passes 256 may be counted as 257.
use Rattle.std.proofs.Common.{◌≡◌, ℕ, zero, suc, List, ◌∷◌, length, drop, ◌+◌, ◌*◌, ◌<◌, Bool, true, false, if◌then◌else◌, refl, ap, sym, ◌∙◌, arith}
use Rattle.std.specs.Prelude.{nat_lt}
use Rattle.std.proofs.Math.ListN.{get_or}
use Rattle.std.proofs.lemmas.List.{drop_more}
use Rattle.std.proofs.lemmas.Bool.{ltb-true, lt-ltb}
use Rattle.std.proofs.Math.Nat.{mul-suc, mul-zero, mul_assoc, mul-one, one-mul}
use Rattle.srb_terms.specs.declared.ty.Ty.{Ty}
use Rattle.srb_sig.specs.Types.{capped}

-- a factor that isn't 0 leaves a large number large
grows : (n k : ℕ) → 256 < n → 256 < n * suc k
grows n k h = let e = mul-suc n k in omega (arith, e, h)

by-size : (n r : ℕ) (b : Bool) → (b ≡ true → 256 < n) → nat_lt 256 ((if b then 257 else n) * r) ≡ nat_lt 256 (n * r)
by-size n r false h = refl
by-size n zero true h = ap (nat_lt 256) (sym (mul-zero n))
by-size n (suc k) true h = lt-ltb 256 (257 * suc k) (grows 257 k (omega arith)) ∙ sym (lt-ltb 256 (n * suc k) (grows n k (h refl)))

-- with one more factor
pub capped_step : (p c r : ℕ) → nat_lt 256 (capped (p * c) * r) ≡ nat_lt 256 (p * (c * r))
capped_step p c r = by-size (p * c) r (nat_lt 256 (p * c)) (ltb-true 256 (p * c)) ∙ ap (nat_lt 256) (mul_assoc p c r)

-- with the first factor, and after the last one
pub from_one : (n : ℕ) → nat_lt 256 (1 * n) ≡ nat_lt 256 n
from_one n = ap (nat_lt 256) (one-mul n)

pub to_one : (n : ℕ) → nat_lt 256 (n * 1) ≡ nat_lt 256 n
to_one n = ap (nat_lt 256) (mul-one n)

-- what is left of a list begins with the next element
pub drop_next : (xs : List Ty) (i : ℕ) (x : Ty) → i < length xs → x ≡ get_or xs i x → drop i xs ≡ x ∷ drop (i + 1) xs
drop_next xs i x within is = drop_more xs i x within ∙ ap (λ y. y ∷ drop (i + 1) xs) (sym is)
