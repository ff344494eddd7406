-- Positions and offsets in a text, which is a list of characters. A character has a size, by which
-- offsets count, and a weight, by which the places in a line count. Both are parameters: offsets count the
-- bytes of UTF-8 (`len_utf8`), and the places in a line count UTF-16 units (`len_utf16`), characters (`one`)
-- or bytes, as the two sides agreed.
use Rattle.std.specs.Prelude.{◌≡◌, ℕ, zero, suc, ◌+◌, ◌-◌, ◌<◌, ◌≤◌, ◌⊎◌, nat_lt, nat_le, List, [], ◌∷◌, if◌then◌else◌}
use Rattle.std.specs.List.{sum_by}
use Rattle.std.specs.Char.{len_utf8}
use Rattle.srb_text.specs.Lines.{Line, lines}
use Rattle.srb_text.specs.declared.Encoding.{Encoding}
use Rattle.srb_text.specs.declared.Encoding.TheVariants.{Utf8, Utf16, Utf32}
use Rattle.srb_text.specs.declared.Pos.{Pos}

-- how many 16-bit units a character has in UTF-16
abbrev pub len_utf16 : ℕ → ℕ
len_utf16 c = if nat_lt c 0x1_0000 then 1 else 2

-- the size or the weight of a character where each counts one
abbrev pub one : ℕ → ℕ
one c = 1

-- what a character counts in a line's places
abbrev pub weight_of : Encoding → ℕ → ℕ
weight_of Utf8 = len_utf8
weight_of Utf16 = len_utf16
weight_of Utf32 = one

-- the characters at the text's front that fit into a budget, by what each takes of it
abbrev pub fitting : (ℕ → ℕ) → ℕ → List ℕ → List ℕ
fitting takes budget [] = []
fitting takes budget (c ∷ cs) = if nat_le (takes c) budget then c ∷ fitting takes (budget - takes c) cs else []

-- what a line has by the sizes of its characters, its end too
abbrev pub line_size : (ℕ → ℕ) → Line → ℕ
line_size size l = sum_by size l.content + sum_by size l.ending

-- the position of an offset from the start of the first of the lines, which has the number `number`: the
-- line in which the offset is, and what the characters before it there weigh. In the line's end it is
-- where the end begins.
abbrev pub position_in : (ℕ → ℕ) → (ℕ → ℕ) → ℕ → ℕ → List Line → Pos
position_in size weight number at [] = record { line = number; unit = 0 }
position_in size weight number at (l ∷ []) =
    record { line = number; unit = sum_by weight (fitting size at l.content) }
position_in size weight number at (l ∷ m ∷ ls) =
    if nat_lt at (line_size size l) then record { line = number; unit = sum_by weight (fitting size at l.content) }
    else position_in size weight (number + 1) (at - line_size size l) (m ∷ ls)

-- the offset from the start of the first of the lines to the place `unit` in the line `number`, where that
-- first line has the number 0. After a line's last character it is where the line's end begins, after
-- the last line the text's end, and inside a character that character's start.
abbrev pub offset_in : (ℕ → ℕ) → (ℕ → ℕ) → ℕ → ℕ → List Line → ℕ
offset_in size weight number unit [] = 0
offset_in size weight zero unit (l ∷ ls) = sum_by size (fitting weight unit l.content)
offset_in size weight (suc number) unit (l ∷ ls) = line_size size l + offset_in size weight number unit ls

-- the position of an offset in bytes
abbrev pub position_of : (ℕ → ℕ) → List ℕ → ℕ → Pos
position_of weight text at = position_in len_utf8 weight 0 at (lines text)

-- the offset in bytes of a position
abbrev pub offset_of : (ℕ → ℕ) → List ℕ → Pos → ℕ
offset_of weight text p = offset_in len_utf8 weight p.line p.unit (lines text)

-- the bytes of a text
abbrev pub byte_len : List ℕ → ℕ
byte_len text = sum_by len_utf8 text

-- the offset in bytes is where a character of the text starts, or where the text ends
abbrev pub IsStart : List ℕ → ℕ → Type 0
IsStart text at = byte_len (fitting len_utf8 at text) ≡ at

-- the order of positions in a text: by lines, and then by the places in the line
abbrev pub IsAtMost : Pos → Pos → Type 0
IsAtMost p q = (p.line < q.line) ⊎ ((p.line ≡ q.line) × (p.unit ≤ q.unit))
