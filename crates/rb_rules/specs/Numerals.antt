-- The numbers that digits write.
use Rattle.std.specs.Prelude.{ℕ, ◌+◌, ◌-◌, ◌*◌, ◌==◌, if◌then◌else◌, List, [], ◌∷◌, drop, slice_index}
use Rattle.std.specs.Char.{is_ascii_digit, is_ascii_lowercase, is_ascii_uppercase}

-- what a digit counts: `a` and `A` count 10
abbrev pub digit_value : ℕ → ℕ
digit_value d =
    if is_ascii_digit d then d - 48
    else (if is_ascii_uppercase d then d - 65 + 10
    else (if is_ascii_lowercase d then d - 97 + 10 else 0))

-- the number that the digits to a base write after those that wrote `value`; a `_` counts for nothing
abbrev pub number_from : ℕ → ℕ → List ℕ → ℕ
number_from base value [] = value
number_from base value (d ∷ w) = number_from base (if d == 95 then value else value * base + digit_value d) w

-- the number that the spelling of a whole number writes: after `0x`, `0b` and `0o` to the bases 16, 2 and 8, else to the base 10
abbrev pub value_of : List ℕ → ℕ
value_of w =
    if slice_index w 1 == 120 then number_from 16 0 (drop 2 w)
    else (if slice_index w 1 == 98 then number_from 2 0 (drop 2 w)
    else (if slice_index w 1 == 111 then number_from 8 0 (drop 2 w) else number_from 10 0 w))
