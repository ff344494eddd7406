-- The limits of frames.
use Rattle.std.specs.Prelude.{ℕ}

-- the most bytes of a frame's head
abbrev pub LONGEST_HEAD : ℕ
LONGEST_HEAD = 4096

-- the most bytes of a frame's body
abbrev pub LONGEST_BODY : ℕ
LONGEST_BODY = 16777216
