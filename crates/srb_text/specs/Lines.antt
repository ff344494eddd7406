-- Lines. A text is a list of characters. A line is ended by a line feed, by a carriage return and a
-- line feed, or by a carriage return alone.
use Rattle.std.specs.Prelude.{◌≡◌, ℕ, Bool, false, not, ◌||◌, ◌&&◌, ◌==◌, ◌⊎◌, List, [], ◌∷◌, ◌++◌, slice_index, if◌then◌else◌}
use Rattle.std.specs.List.{list_any}

abbrev pub LINE_FEED : ℕ
LINE_FEED = 10

abbrev pub CARRIAGE_RETURN : ℕ
CARRIAGE_RETURN = 13

-- whether the character is one of the two that end lines
abbrev pub is_line_end : ℕ → Bool
is_line_end c = c == LINE_FEED || c == CARRIAGE_RETURN

-- whether the text begins with a line feed
abbrev pub begins_with_line_feed : List ℕ → Bool
begins_with_line_feed text = slice_index text 0 == LINE_FEED

-- whether a line ends right after the character, before `rest`: never between the two of one end
abbrev pub ends_line : ℕ → List ℕ → Bool
ends_line c rest = c == LINE_FEED || (c == CARRIAGE_RETURN && not (begins_with_line_feed rest))

-- a line: its characters without its end, and its end, which the last line of a text doesn't have
pub record Line : Type 0 where
  pub content : List ℕ
  pub ending : List ℕ

-- the lines where one more character stands at the front of the first line, or of its end
abbrev pub with_content : ℕ → List Line → List Line
with_content c [] = []
with_content c (l ∷ ls) = record { content = c ∷ l.content; ending = l.ending } ∷ ls

abbrev pub with_ending : ℕ → List Line → List Line
with_ending c [] = []
with_ending c (l ∷ ls) = record { content = l.content; ending = c ∷ l.ending } ∷ ls

-- the text cut into lines; the last one, which may be empty, has no end
abbrev pub lines : List ℕ → List Line
lines [] = record { content = []; ending = [] } ∷ []
lines (c ∷ cs) =
    if ends_line c cs then record { content = []; ending = c ∷ [] } ∷ lines cs
    else (if c == CARRIAGE_RETURN then with_ending c (lines cs) else with_content c (lines cs))

-- no character of the text ends a line
abbrev pub HasNoLineEnd : List ℕ → Type 0
HasNoLineEnd text = list_any is_line_end text ≡ false

-- the characters are one end of a line, before `rest`
abbrev pub IsLineEnding : List ℕ → List ℕ → Type 0
IsLineEnding end rest =
    (end ≡ LINE_FEED ∷ []) ⊎ (end ≡ CARRIAGE_RETURN ∷ LINE_FEED ∷ []) ⊎ ((end ≡ CARRIAGE_RETURN ∷ []) × (begins_with_line_feed rest ≡ false))

-- the text is the line, which has no end
pub record IsLastLine (text : List ℕ) (line : Line) : Type 0 where
  pub whole : text ≡ line.content
  pub plain : HasNoLineEnd line.content
  pub endless : line.ending ≡ []

-- the text begins with the line, after which `rest` follows
pub record IsFirstLine (text : List ℕ) (line : Line) (rest : List ℕ) : Type 0 where
  pub whole : text ≡ line.content ++ line.ending ++ rest
  pub plain : HasNoLineEnd line.content
  pub ended : IsLineEnding line.ending rest

-- the list is the text's lines: in turn they are the text, and each but the last is ended
abbrev pub AreLines : List ℕ → List Line → Type 0
AreLines text [] = ⊥
AreLines text (l ∷ []) = IsLastLine text l
AreLines text (l ∷ m ∷ ls) = (rest : List ℕ) × IsFirstLine text l rest × AreLines rest (m ∷ ls)
