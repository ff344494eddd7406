-- A recursion on a number of turns, beside a loop that counts up.
use Rattle.std.proofs.Common.{◌≡◌, ℕ, suc, ◌+◌, ◌-◌, ◌<◌, ◌≤◌, ap, ◌∙◌, arith}

-- one turn more
pub turn : {X : Type 0} {x : X} (f : ℕ → X) (n at : ℕ) → at < n → x ≡ f (n - at) → x ≡ f (suc (n - (at + 1)))
turn f n at below e = let next : n - at ≡ suc (n - (at + 1)) = omega arith in e ∙ ap f next

-- no turn is left
pub last_turn : {X : Type 0} {x : X} (f : ℕ → X) (n at : ℕ) → n ≤ at → x ≡ f (n - at) → x ≡ f 0
last_turn f n at done e = let none : n - at ≡ 0 = omega arith in e ∙ ap f none
