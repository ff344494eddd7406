-- Characters in the bytes of UTF-8.
use Rattle.std.specs.Prelude.{ℕ, ◌+◌, Bool, ◌&&◌, nat_le, List, [], ◌∷◌, drop}
use Rattle.std.specs.List.{prefix_len}
use Rattle.srb_terms.specs.declared.span.Span.{Span}

-- whether a byte of UTF-8 continues a character
abbrev pub continues : ℕ → Bool
continues byte = nat_le 128 byte && nat_le byte 191

-- how many bytes continue a character at the front of these
abbrev pub continuing : List ℕ → ℕ
continuing bytes = prefix_len continues bytes

-- how many bytes the first character has, and 0 where there is none
abbrev pub first_size : List ℕ → ℕ
first_size [] = 0
first_size (byte ∷ bytes) = 1 + continuing bytes

-- the place of the character that begins at an offset, which is empty at the text's end
abbrev pub character_at : List ℕ → ℕ → Span
character_at bytes at = record { start = at; end = at + first_size (drop at bytes) }
