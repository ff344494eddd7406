-- There is a name that is none of some.
use Rattle.std.proofs.Common.{◌≡◌, ℕ, suc, ◌+◌, ◌≤◌, ◌<◌, Bool, true, false, ◌||◌, List, [], ◌∷◌, ◌++◌, length, refl, ap, bytes_eq, arith}
use Rattle.std.proofs.Common.{length-append}
use Rattle.std.proofs.lemmas.Slice.Eq.{bytes_eq-Decides}
use Rattle.rb_expr.specs.Lists.{is_among}

-- a name longer than all of these
abbrev pub new_name : List (List ℕ) → List ℕ
new_name [] = []
new_name (n ∷ names) = 0 ∷ (n ++ new_name names)

neither : (a b : Bool) → a ≡ false → b ≡ false → (a || b) ≡ false
neither true b e f = e
neither false b e f = f

is-false : (b : Bool) → (b ≡ true → ⊥) → b ≡ false
is-false true h = absurd (h refl)
is-false false h = refl

longer : (n : List ℕ) (names : List (List ℕ)) (w : List ℕ) → length (new_name (n ∷ names)) ≤ length w → (length n < length w) × (length (new_name names) ≤ length w)
longer n names w le =
    let whole : length (n ++ new_name names) ≡ length n + length (new_name names) = length-append n (new_name names) in
    let long : suc (length (n ++ new_name names)) ≤ length w = le in
    ((let h : length n < length w = omega arith in h), (let h : length (new_name names) ≤ length w = omega arith in h))

other : (n w : List ℕ) → length n < length w → bytes_eq w n ≡ false
other n w less = is-false (bytes_eq w n) (λ e. let same : w ≡ n = (bytes_eq-Decides w n).0 e in let e : length w ≡ length n = ap (λ v. length v) same in absurd (omega arith))

longer-new : (names : List (List ℕ)) (w : List ℕ) → length (new_name names) ≤ length w → is_among names w ≡ false
longer-new [] w le = refl
longer-new (n ∷ names) w le = let h = longer n names w le in neither (bytes_eq w n) _ (other n w h.0) (longer-new names w h.1)

pub new-name : (names : List (List ℕ)) → is_among names (new_name names) ≡ false
new-name names = longer-new names (new_name names) (let n = length (new_name names) in let h : length (new_name names) ≤ length (new_name names) = omega arith in h)
