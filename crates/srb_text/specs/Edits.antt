-- Edits. An edit puts new characters in the place of a part of a text.
use Rattle.std.specs.Prelude.{◌≡◌, ℕ, ◌<◌, ◌≤◌, List, ◌++◌, length, drop}
use Rattle.std.specs.Char.{len_utf8}
use Rattle.srb_text.specs.Positions.{fitting, offset_of}
use Rattle.srb_text.specs.declared.Pos.{Pos}
use Rattle.srb_text.specs.declared.EditFault.{EditFault}
use Rattle.srb_text.specs.declared.EditFault.TheVariants.{Backwards, NoMemory}

-- the characters of the text before an offset in bytes, and those from it on
abbrev pub before : ℕ → List ℕ → List ℕ
before at text = fitting len_utf8 at text

abbrev pub after : ℕ → List ℕ → List ℕ
after at text = drop (length (before at text)) text

-- the text in which `new` stands in the place of the part between two offsets in bytes
abbrev pub replaced : List ℕ → ℕ → ℕ → List ℕ → List ℕ
replaced text start end new = before start text ++ new ++ after end text

-- the text in which `new` stands in the place of the part between two positions
abbrev pub edited : (ℕ → ℕ) → List ℕ → Pos → Pos → List ℕ → List ℕ
edited weight text from to new = replaced text (offset_of weight text from) (offset_of weight text to) new

-- the refusal of an edit of the part between two offsets in bytes: `Backwards` with both exactly where the
-- first is the greater one
abbrev pub IsEditFault : ℕ → ℕ → EditFault → Type 0
IsEditFault from to (Backwards start end) = (start ≡ from) × (end ≡ to) × (to < from)
IsEditFault from to NoMemory = from ≤ to
