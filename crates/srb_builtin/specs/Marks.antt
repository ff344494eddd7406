-- Texts that are cut at marks. A mark is an ASCII character.
use Rattle.std.specs.Prelude.{ℕ, ◌==◌, List, [], ◌∷◌, Option, Some, None, if◌then◌else◌}

abbrev pub blank : ℕ
blank = 32

abbrev pub round_open : ℕ
round_open = 40

abbrev pub round_close : ℕ
round_close = 41

abbrev pub star : ℕ
star = 42

abbrev pub comma : ℕ
comma = 44

abbrev pub semicolon : ℕ
semicolon = 59

abbrev pub question : ℕ
question = 63

abbrev pub square_open : ℕ
square_open = 91

abbrev pub square_close : ℕ
square_close = 93

abbrev pub backtick : ℕ
backtick = 96

abbrev pub curly_open : ℕ
curly_open = 123

abbrev pub curly_close : ℕ
curly_close = 125

-- what stands before the first such mark; the whole text, if there is none
abbrev pub before : ℕ → List ℕ → List ℕ
before mark [] = []
before mark (b ∷ rest) = if b == mark then [] else b ∷ before mark rest

-- what stands after the first such mark; nothing, if there is none
abbrev pub after : ℕ → List ℕ → List ℕ
after mark [] = []
after mark (b ∷ rest) = if b == mark then rest else after mark rest

-- what follows the mark with which the text begins; None, if it begins with none
abbrev pub past : ℕ → List ℕ → Option (List ℕ)
past mark [] = None
past mark (b ∷ rest) = if b == mark then Some rest else None

-- the parts with a character before the first
abbrev pub onto_first : ℕ → List (List ℕ) → List (List ℕ)
onto_first b [] = (b ∷ []) ∷ []
onto_first b (part ∷ parts) = (b ∷ part) ∷ parts

-- the parts of a text between such marks
abbrev pub parts : ℕ → List ℕ → List (List ℕ)
parts mark [] = [] ∷ []
parts mark (b ∷ rest) = if b == mark then [] ∷ parts mark rest else onto_first b (parts mark rest)

-- the words of a text, with a blank between each two; the empty text has none
abbrev pub words : List ℕ → List (List ℕ)
words [] = []
words (b ∷ rest) = parts blank (b ∷ rest)

-- ---- brackets

-- what stands in the brackets with which a text begins; nothing, if it begins with none
abbrev pub before_close : ℕ → Option (List ℕ) → List ℕ
before_close closing None = []
before_close closing (Some text) = before closing text

abbrev pub inside : ℕ → ℕ → List ℕ → List ℕ
inside opening closing text = before_close closing (past opening text)

-- a text without the blank with which it begins
abbrev pub or_text : List ℕ → Option (List ℕ) → List ℕ
or_text text None = text
or_text text (Some rest) = rest

abbrev pub unblanked : List ℕ → List ℕ
unblanked text = or_text text (past blank text)

-- what follows the brackets with which a text begins, and a blank; the text itself, if it begins with none
abbrev pub after_close : ℕ → List ℕ → Option (List ℕ) → List ℕ
after_close closing text None = text
after_close closing text (Some rest) = unblanked (after closing rest)

abbrev pub outside : ℕ → ℕ → List ℕ → List ℕ
outside opening closing text = after_close closing text (past opening text)
