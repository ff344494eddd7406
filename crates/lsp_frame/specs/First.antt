-- The first frame of some bytes.
use Rattle.std.specs.Prelude.{nat_lt, ℕ, ◌+◌, List, length, if◌then◌else◌}
use Rattle.lsp_frame.specs.Limits.{LONGEST_BODY}
use Rattle.lsp_frame.specs.declared.head.Head.{Head}
use Rattle.lsp_frame.specs.declared.head.Head.TheVariants.{Unended, Broken, Gives}
use Rattle.lsp_frame.specs.declared.first.First.{First}
use Rattle.lsp_frame.specs.declared.first.First.TheVariants.{More, Refused, Oversized, Frame}
use Rattle.lsp_frame.specs.Head.{head_of}

-- after a head of this size that gives this length, where there are so many bytes: a body has at most 16,777,216
-- bytes, and is there where all of them are
abbrev pub body_of : (length size available : ℕ) → First
body_of length size available =
    if nat_lt LONGEST_BODY length then Oversized length else (if nat_lt available (size + length) then More else Frame size (size + length))

abbrev pub first_from : Head → ℕ → First
first_from Unended available = More
first_from (Broken at) available = Refused at
first_from (Gives length size) available = body_of length size available

-- what stands at the front of the bytes: a frame's start or nothing, a break, a length past the limit, or a frame
abbrev pub first_of : List ℕ → First
first_of bytes = first_from (head_of bytes) (length bytes)
