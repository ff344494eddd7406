-- Laws of lines, positions and edits.
use Rattle.std.specs.Prelude.{◌≡◌, ℕ, ◌+◌, ◌-◌, ◌<◌, ◌≤◌, ◌↔◌, List, [], ◌∷◌, ◌++◌}
use Rattle.std.specs.Str.{encode_utf8_all, IsCharBoundary}
use Rattle.srb_text.specs.Edits.{edited}
use Rattle.srb_text.specs.Lines.{Line, LINE_FEED, CARRIAGE_RETURN, lines, AreLines}
use Rattle.srb_text.specs.Positions.{byte_len, position_of, offset_of, weight_of, IsStart, IsAtMost}
use Rattle.srb_text.specs.declared.Encoding.{Encoding}
use Rattle.srb_text.specs.declared.Pos.{Pos}

-- each text is cut into lines in one way, and `lines` gives it
abbrev pub LinesAreUnique : Type 0
LinesAreUnique = (text : List ℕ) (ls : List Line) → AreLines text ls ↔ (ls ≡ lines text)

-- the text has a front that ends at the offset
pub record HasFront (text : List ℕ) (at : ℕ) : Type 0 where
  pub front : List ℕ
  pub rest : List ℕ
  pub whole : text ≡ front ++ rest
  pub len : byte_len front ≡ at

-- a start is where a front of the text ends
abbrev pub StartsEndFronts : Type 0
StartsEndFronts = (text : List ℕ) (at : ℕ) → IsStart text at ↔ HasFront text at

-- a start is where the UTF-8 of the text may be cut
abbrev pub StartsAreBoundaries : Type 0
StartsAreBoundaries = (text : List ℕ) (at : ℕ) → IsStart text at ↔ IsCharBoundary (encode_utf8_all text) at

-- the offset is between the two characters of one line's end
pub record IsInsideLineEnd (text : List ℕ) (at : ℕ) : Type 0 where
  pub front : List ℕ
  pub rest : List ℕ
  pub whole : text ≡ front ++ CARRIAGE_RETURN ∷ LINE_FEED ∷ rest
  pub len : byte_len front + 1 ≡ at

-- each character weighs something
abbrev pub IsWeight : (ℕ → ℕ) → Type 0
IsWeight weight = (c : ℕ) → 0 < weight c

-- so it does in each encoding
abbrev pub EncodingsWeigh : Type 0
EncodingsWeigh = (e : Encoding) → IsWeight (weight_of e)

-- a start comes back from its position, but one inside a line's end
abbrev pub OffsetsComeBack : Type 0
OffsetsComeBack =
    (weight : ℕ → ℕ) (text : List ℕ) (at : ℕ) → IsWeight weight → IsStart text at → ¬ IsInsideLineEnd text at → offset_of weight text (position_of weight text at) ≡ at

-- a later offset has no earlier position
abbrev pub PositionsRise : Type 0
PositionsRise =
    (weight : ℕ → ℕ) (text : List ℕ) (at to : ℕ) → at ≤ to → IsAtMost (position_of weight text at) (position_of weight text to)

-- a later position has no earlier offset
abbrev pub OffsetsRise : Type 0
OffsetsRise =
    (weight : ℕ → ℕ) (text : List ℕ) (p q : Pos) → IsAtMost p q → offset_of weight text p ≤ offset_of weight text q

-- the offset of a position is a start
abbrev pub OffsetsAreStarts : Type 0
OffsetsAreStarts = (weight : ℕ → ℕ) (text : List ℕ) (p : Pos) → IsStart text (offset_of weight text p)

-- an edit that puts nothing in the place of nothing changes nothing
abbrev pub EmptyEditsKeep : Type 0
EmptyEditsKeep = (weight : ℕ → ℕ) (text : List ℕ) (p : Pos) → edited weight text p p [] ≡ text

-- an edited text has the bytes of the text, without those of the part and with those of what was put there
abbrev pub EditsHaveSizes : Type 0
EditsHaveSizes =
    (weight : ℕ → ℕ) (text : List ℕ) (from to : Pos) (new : List ℕ) → offset_of weight text from ≤ offset_of weight text to → byte_len (edited weight text from to new) + (offset_of weight text to - offset_of weight text from) ≡ byte_len text + byte_len new
