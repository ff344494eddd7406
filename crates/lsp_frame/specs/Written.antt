-- Frames as they are written.
use Rattle.std.specs.Prelude.{◌≡◌, ℕ, ◌+◌, ◌≤◌, List, [], ◌∷◌, ◌++◌, length, codes, ⊤}
use Rattle.std.specs.declared.option.Option.{Option}
use Rattle.std.specs.Fmt.{decimal}
use Rattle.std.specs.Io.KnownBytes.{Keeps}
use Rattle.lsp_frame.specs.Limits.{LONGEST_BODY}
use Rattle.srb_io.specs.Told.{AppendsPart}
use Rattle.lsp_frame.specs.declared.writing.WriteEnd.{WriteEnd}
use Rattle.lsp_frame.specs.declared.writing.WriteEnd.TheVariants.{Fault, NoMemory}

-- the head of a body of this length
abbrev pub head : ℕ → List ℕ
head n = codes "Content-Length: " ++ decimal n ++ codes "\r\n\r\n"

-- the frame of a body
abbrev pub frame : List ℕ → List ℕ
frame body = head (length body) ++ body

-- the frames of these bodies, one after the other
abbrev pub frames : List (List ℕ) → List ℕ
frames [] = []
frames (body ∷ bodies) = frame body ++ frames bodies

-- a fault raised the count by one, and the sink took a first part of the bytes; because memory ran out nothing was written
abbrev pub WritesShort : WriteEnd → List ℕ → (old new : Option (List ℕ)) → (before now : ℕ) → Type 0
WritesShort Fault bytes old new before now = AppendsPart old new bytes × (now ≡ before + 1)
WritesShort NoMemory bytes old new before now = Keeps old new × (now ≡ before)

-- no body is longer than 16,777,216 bytes
abbrev pub AreWithin : List (List ℕ) → Type 0
AreWithin [] = ⊤
AreWithin (body ∷ bodies) = (length body ≤ LONGEST_BODY) × AreWithin bodies
