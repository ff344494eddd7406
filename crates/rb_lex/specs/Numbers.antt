-- Numbers.
use Rattle.std.specs.Prelude.{ℕ, ◌+◌, ◌-◌, ◌*◌, ◌^◌, Bool, true, false, not, ◌||◌, ◌&&◌, ◌==◌, nat_lt, if◌then◌else◌, List, [], ◌∷◌, length, take, slice_index, Option, Some, None}
use Rattle.std.specs.Char.{is_ascii_digit, is_ascii_lowercase, is_ascii_uppercase}
use Rattle.rb_lex.specs.Chars.{is_in, is_letter, after}
use Rattle.rb_lex.specs.declared.chars.Set.{Set}
use Rattle.rb_lex.specs.declared.chars.Set.TheVariants as set
use Rattle.rb_lex.specs.declared.number.Spelling.{Spelling}

-- how far digits go on after a digit: one `_` may stand between two
abbrev pub more_digits : Set → List ℕ → ℕ
more_digits s [] = 0
more_digits s (b ∷ z) = if is_in s b || (b == 95 && is_in s (slice_index z 0)) then 1 + more_digits s z else 0

abbrev pub begins_digits : Set → List ℕ → Bool
begins_digits s z = not (length z == 0) && is_in s (slice_index z 0)

-- how long the digits are with which the text begins
abbrev pub digits_len : Set → List ℕ → ℕ
digits_len s z = if begins_digits s z then more_digits s z else 0

-- the end of the exponent at a place, `e`, perhaps a sign, and digits, or the place where there is none
abbrev pub exponent_end : List ℕ → ℕ → ℕ
exponent_end z at =
    let next = slice_index z (at + 1) in
    if not (slice_index z at == 101) then at
    else (if is_in set.Decimal next then at + 1 + digits_len set.Decimal (after (at + 1) z)
    else (if (next == 43 || next == 45) && is_in set.Decimal (slice_index z (at + 2)) then at + 2 + digits_len set.Decimal (after (at + 2) z)
    else at))

-- the end of the fraction at a place, `.`, digits and perhaps an exponent, or 0 where there is none
abbrev pub fraction_end : List ℕ → ℕ → ℕ
fraction_end z at =
    if slice_index z at == 46 && is_in set.Decimal (slice_index z (at + 1)) then exponent_end z (at + 1 + digits_len set.Decimal (after (at + 1) z)) else 0

-- the number that begins with `0x`, `0b` or `0o`
abbrev pub based : Set → List ℕ → Spelling
based s z = record { len = 2 + digits_len s (after 2 z); is_float = false; head = 2; digits = s }

-- the number that begins with its digits: with a fraction it is a float, else a whole number, which is `0` alone where it
-- begins with 0
abbrev pub decimal : List ℕ → Spelling
decimal z =
    let whole = digits_len set.Decimal z in
    let end = fraction_end z whole in
    if not (end == 0) then record { len = end; is_float = true; head = 0; digits = set.Decimal }
    else (if slice_index z 0 == 48 then record { len = 1; is_float = false; head = 0; digits = set.Decimal }
    else record { len = whole; is_float = false; head = 0; digits = set.Decimal })

-- the number with which the text begins
unfoldable pub spelling_of : List ℕ → Spelling
spelling_of z =
    let base = slice_index z 1 in
    let first = slice_index z 2 in
    if not (slice_index z 0 == 48) then decimal z
    else (if base == 120 && is_in set.Hexadecimal first then based set.Hexadecimal z
    else (if base == 98 && is_in set.Binary first then based set.Binary z
    else (if base == 111 && is_in set.Octal first then based set.Octal z
    else decimal z)))

abbrev pub base_of : Set → ℕ
base_of set.Binary = 2
base_of set.Octal = 8
base_of set.Hexadecimal = 16
base_of _ = 10

-- what a digit counts
abbrev pub digit_of : ℕ → ℕ
digit_of b =
    if is_ascii_digit b then b - 48
    else (if is_ascii_uppercase b then b - 65 + 10
    else (if is_ascii_lowercase b then b - 97 + 10 else 0))

-- the number with one more digit, if it stays below 2 to the 128th
abbrev pub with_digit : ℕ → Set → ℕ → Option ℕ
with_digit value s b = if nat_lt (value * base_of s + digit_of b) (2 ^ 128) then Some (value * base_of s + digit_of b) else None

-- Whether the number that the digits write stays below 2 to the 128th, where those before them wrote `value`.
abbrev pub fits : ℕ → Set → List ℕ → Bool
fits value s [] = true
fits value s (b ∷ z) = if b == 95 then fits value s z else (elim (with_digit value s b) [ None ↦ false | Some more ↦ fits more s z ])

-- the digits of a number, which `_` may part
abbrev pub digits_in : Spelling → List ℕ → List ℕ
digits_in number z = after number.head (take number.len z)

-- whether a number is outside the profile: it begins with 0 and a digit, a letter stands directly after it, or it is a whole
-- number of over 128 bits
unfoldable pub is_foreign : Spelling → List ℕ → Bool
is_foreign number z =
    (slice_index z 0 == 48 && is_in set.Decimal (slice_index z 1))
    || is_letter (slice_index z number.len)
    || not (number.is_float || fits 0 number.digits (digits_in number z))
