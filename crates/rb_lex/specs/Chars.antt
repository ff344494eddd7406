-- Characters, blanks, line ends and comments. A text is the list of its bytes in UTF-8; a character past ASCII is bytes from
-- 128 on. In a text that was read to its end 0 comes next.
use Rattle.std.specs.Prelude.{ℕ, ◌+◌, Bool, not, ◌||◌, ◌&&◌, ◌==◌, nat_le, if◌then◌else◌, List, [], ◌∷◌, length, drop, slice_index}
use Rattle.std.specs.Char.{is_ascii_digit, is_ascii_hexdigit, is_ascii_alphanumeric, is_ascii_alphabetic, is_ascii_lowercase, is_ascii_uppercase}
use Rattle.std.specs.List.{prefix_len}
use Rattle.rb_lex.specs.declared.chars.Set.{Set}
use Rattle.rb_lex.specs.declared.chars.Set.TheVariants as set

-- whether the byte is of the set: letters, digits and `_`, or space and tab, or the digits to a base
abbrev pub is_in : Set → ℕ → Bool
is_in set.Word b = is_ascii_alphanumeric b || b == 95
is_in set.Blank b = b == 32 || b == 9
is_in set.Binary b = b == 48 || b == 49
is_in set.Octal b = nat_le 48 b && nat_le b 55
is_in set.Decimal b = is_ascii_digit b
is_in set.Hexadecimal b = is_ascii_hexdigit b

abbrev pub begins_name : ℕ → Bool
begins_name b = is_ascii_lowercase b || b == 95

abbrev pub is_upper : ℕ → Bool
is_upper b = is_ascii_uppercase b

abbrev pub is_letter : ℕ → Bool
is_letter b = is_ascii_alphabetic b

-- how many bytes of the set the text begins with
abbrev pub run_len : Set → List ℕ → ℕ
run_len s z = prefix_len (is_in s) z

-- How long the blank is with which the text begins, or 0: a blank is a space, a tab, a `\r` before `\n`, or a backslash with the
-- `\n` or the `\r\n` after it.
abbrev pub blank_len : List ℕ → ℕ
blank_len z =
    let b = slice_index z 0 in
    let next = slice_index z 1 in
    if is_in set.Blank b then 1
    else (if b == 13 && next == 10 then 1
    else (if b == 92 && next == 10 then 2
    else (if b == 92 && next == 13 && slice_index z 2 == 10 then 3 else 0)))

-- whether a blank or a line's end comes next, or nothing
abbrev pub is_spaced : List ℕ → Bool
is_spaced z = length z == 0 || slice_index z 0 == 10 || not (blank_len z == 0)

-- how many bytes stand before the line's end, to which a `\r` before the `\n` does not count
abbrev pub line_len : List ℕ → ℕ
line_len [] = 0
line_len (b ∷ z) = if b == 10 || (b == 13 && slice_index z 0 == 10) then 0 else 1 + line_len z

-- the text from a place on
abbrev pub after : ℕ → List ℕ → List ℕ
after at z = drop at z
