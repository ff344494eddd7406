-- The bytes of a head.
use Rattle.std.specs.Prelude.{◌==◌, ◌&&◌, ◌||◌, nat_le, ℕ, Bool, List, codes}
use Rattle.std.specs.Char.{is_ascii_alphanumeric}

-- a letter, a digit or `-`
abbrev pub is_name_byte : ℕ → Bool
is_name_byte b = is_ascii_alphanumeric b || (b == 45)

-- a byte from 32 to 126, or a tab
abbrev pub is_value_byte : ℕ → Bool
is_value_byte b = (nat_le 32 b && nat_le b 126) || (b == 9)

-- a space or a tab
abbrev pub is_blank : ℕ → Bool
is_blank b = (b == 32) || (b == 9)

-- the name of the line that gives the body's length, in lower case
abbrev pub content_length : List ℕ
content_length = codes "content-length"
