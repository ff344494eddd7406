-- A number of few digits.
use Rattle.std.proofs.Common.{◌≡◌, ℕ, ◌+◌, ◌*◌, ◌^◌, ◌<◌, ◌≤◌, suc, add-one, arith}
use Rattle.std.proofs.Math.Nat.{pow-suc, pow-le-pow_right}

-- one more digit
pub below_power : (count value digit : ℕ) → value < 10 ^ count → digit < 10 → value * 10 + digit < 10 ^ (count + 1)
below_power count value digit below small =
    let wider : 10 ^ suc count ≡ 10 ^ count * 10 = pow-suc 10 count in
    rw (add-one, wider) (omega arith)

-- 19 digits are below 2 ^ 64
pub fits : (count value digit : ℕ) → value < 10 ^ count → digit < 10 → count < 19 → value * 10 + digit < 2 ^ 64
fits count value digit below small few =
    let one_more : value * 10 + digit < 10 ^ (count + 1) = below_power count value digit below small in
    let up : count + 1 ≤ 19 = omega arith in
    let ten : 0 < 10 = omega arith in
    let most : 10 ^ (count + 1) ≤ 10 ^ 19 = pow-le-pow_right ten up in
    omega (arith, one_more, most)
