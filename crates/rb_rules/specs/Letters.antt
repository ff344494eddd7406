-- Characters: letters, digits and what stands in names. A character past ASCII is none of them.
use Rattle.std.specs.Prelude.{ℕ, Bool, ◌||◌, ◌&&◌, ◌==◌, nat_le}
use Rattle.std.specs.Char.{is_ascii_digit, is_ascii_hexdigit, is_ascii_alphanumeric, is_ascii_alphabetic, is_ascii_lowercase, is_ascii_uppercase}

-- `[A-Za-z]`
abbrev pub is_letter : ℕ → Bool
is_letter c = is_ascii_alphabetic c

-- `[A-Z]`, with which a constant begins
abbrev pub is_capital : ℕ → Bool
is_capital c = is_ascii_uppercase c

-- `[a-z_]`, with which an identifier begins
abbrev pub begins_name : ℕ → Bool
begins_name c = is_ascii_lowercase c || c == 95

-- `[A-Za-z0-9_]`, with which a name goes on
abbrev pub continues_name : ℕ → Bool
continues_name c = is_ascii_alphanumeric c || c == 95

-- a space or a tab
abbrev pub is_blank : ℕ → Bool
is_blank c = c == 32 || c == 9

-- the digits to the bases 2, 8, 10 and 16
abbrev pub is_binary : ℕ → Bool
is_binary c = c == 48 || c == 49

abbrev pub is_octal : ℕ → Bool
is_octal c = nat_le 48 c && nat_le c 55

abbrev pub is_decimal : ℕ → Bool
is_decimal c = is_ascii_digit c

abbrev pub is_hexadecimal : ℕ → Bool
is_hexadecimal c = is_ascii_hexdigit c
