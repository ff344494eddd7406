-- The limit of texts.
use Rattle.std.specs.Prelude.{ℕ}

-- the most bytes that all texts of a project have together, so also the most bytes of one text
abbrev pub MOST_BYTES : ℕ
MOST_BYTES = 16777216
