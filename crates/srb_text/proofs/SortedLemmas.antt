-- Numbers that increase, and how many of them are up to a bound.
use Rattle.std.proofs.Common.{◌≡◌, ℕ, zero, suc, ◌+◌, ◌-◌, ◌<◌, ◌≤◌, Bool, true, false, nat_le, List, [], ◌∷◌, ◌++◌, length, get_or, refl, sym, ap, arith, add-zero}
use Rattle.std.proofs.lemmas.Bool.{leb-true, le-leb, and_parts, or_parts}
use Rattle.std.proofs.lemmas.List.{get_or_default}
use Rattle.std.proofs.lemmas.List.Sums.{prefix_len_is}
use Rattle.std.specs.List.{prefix_len, list_all, list_any}
use Rattle.std.specs.List.Sorted.{IsStrictlyIncreasing, IsPartitionedBy, IsPartitionPoint}

-- a later number is no smaller
pub get_or-increasing : (xs : List ℕ) (i n : ℕ) → IsStrictlyIncreasing xs → i + n < length xs → get_or xs i 0 ≤ get_or xs (i + n) 0
get_or-increasing xs i zero up l = rw add-zero (omega arith)
get_or-increasing xs i (suc n) up l =
    let here : get_or xs i 0 ≤ get_or xs (i + n) 0 = get_or-increasing xs i n up (omega arith) in
    let next : get_or xs (i + n) 0 < get_or xs (i + n + 1) 0 = up (i + n) (omega arith) in
    let same : i + n + 1 ≡ i + suc n = omega arith in
    let past : get_or xs (i + n + 1) 0 ≡ get_or xs (i + suc n) 0 = ap (λ k. get_or xs k 0) same in
    omega (arith, here, next, past)

pub partitioned_up_to : (xs : List ℕ) (at : ℕ) → IsStrictlyIncreasing xs → IsPartitionedBy (λ s. nat_le s at) xs
partitioned_up_to xs at up i j d h l e =
    let rises : get_or xs i 0 ≤ get_or xs (i + (j - i)) 0 = get_or-increasing xs i (j - i) up (omega arith) in
    let same : i + (j - i) ≡ j = omega arith in
    let to : get_or xs (i + (j - i)) 0 ≡ get_or xs j 0 = ap (λ k. get_or xs k 0) same in
    let bound : get_or xs j d ≤ at = leb-true _ _ e in
    let first : get_or xs i d ≡ get_or xs i 0 = get_or_default xs i d 0 (omega arith) in
    let second : get_or xs j d ≡ get_or xs j 0 = get_or_default xs j d 0 l in
    le-leb _ _ (omega (arith, rises, to, bound, first, second))

pub prefix_from_point : (p : ℕ → Bool) (xs : List ℕ) (n : ℕ) → n ≤ length xs → IsPartitionPoint (λ y. p y ≡ true) (λ y. p y ≡ false) xs n → n ≡ prefix_len p xs
prefix_from_point p xs n bound point = sym (prefix_len_is p xs n 0 bound (λ k l. point.0 k 0 (omega arith) l) (λ l. point.1 n 0 (omega arith) l))

-- a number in front of larger ones that increase
pub increasing_cons : (x y : ℕ) (ys : List ℕ) → x < y → IsStrictlyIncreasing (y ∷ ys) → IsStrictlyIncreasing (x ∷ y ∷ ys)
increasing_cons x y ys h up zero l = h
increasing_cons x y ys h up (suc k) l =
    let next : get_or (y ∷ ys) k 0 < get_or (y ∷ ys) (k + 1) 0 = up k (omega arith) in
    let same : suc k + 1 ≡ suc (k + 1) = omega arith in
    rw same next

-- the front of a list whose elements pass a test that none of the others does
pub prefix_len-split : (p : ℕ → Bool) (xs ys : List ℕ) → list_all p xs ≡ true → list_any p ys ≡ false → prefix_len p (xs ++ ys) ≡ length xs
prefix_len-split p [] [] a n = refl
prefix_len-split p [] (y ∷ ys) a n = let no = (or_parts (p y) (list_any p ys) n).0 in rw no
prefix_len-split p (x ∷ xs) ys a n =
    let parts = and_parts (p x) (list_all p xs) a in
    let yes = parts.0 in rw yes (omega (arith, prefix_len-split p xs ys parts.1 n))
