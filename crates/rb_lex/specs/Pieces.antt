-- Pieces of strings. A piece ends before the quote that ends the string, and in a string with `"` before `#{`. A backslash takes
-- the next character: of a string with `'` this is no more than that `\'` does not end it, and that `\\` is whole.
use Rattle.std.specs.Prelude.{◌≢◌, ℕ, ◌+◌, ◌<◌, ◌≤◌, Bool, true, false, not, ◌||◌, ◌&&◌, ◌==◌, if◌then◌else◌, List, [], ◌∷◌, slice_index, Option, Some, None}
use Rattle.rb_lex.specs.declared.piece.Stop.{Stop}
use Rattle.rb_lex.specs.declared.piece.Stop.TheVariants as stop
use Rattle.rb_lex.specs.declared.piece.Piece.{Piece}

-- before `#{` a byte follows
abbrev pub NeedsNext : Option Stop → ℕ → Type 0
NeedsNext None next = Unit {0}
NeedsNext (Some stop.Quote) next = Unit {0}
NeedsNext (Some stop.Interpolation) next = next ≢ 0
NeedsNext (Some stop.Foreign) next = Unit {0}
NeedsNext (Some stop.End) next = Unit {0}

-- the piece and what ends it are within a text of `n` bytes
abbrev pub IsWithin : Stop → ℕ → ℕ → Type 0
IsWithin stop.Quote len n = len < n
IsWithin stop.Interpolation len n = len + 1 < n
IsWithin stop.Foreign len n = len ≤ n
IsWithin stop.End len n = len ≤ n

-- what ends a piece at the byte that stands before `next`
abbrev pub stop_at : ℕ → ℕ → ℕ → Option Stop
stop_at quote b next =
    if b == quote then Some stop.Quote
    else (if not (quote == 34) || not (b == 35) then None
    else (if next == 123 then Some stop.Interpolation
    else (if next == 64 || next == 36 then Some stop.Foreign else None)))

-- the piece that goes on at the text's front, where `len` bytes stand before it, of which the last is a backslash that takes the
-- next character, or is not
abbrev pub piece_from : ℕ → Bool → ℕ → List ℕ → Piece
piece_from quote taken len [] = record { stop = stop.End; len = len }
piece_from quote true len (b ∷ z) = piece_from quote false (len + 1) z
piece_from quote false len (b ∷ z) =
    elim (stop_at quote b (slice_index z 0)) [ None ↦ piece_from quote (b == 92) (len + 1) z | Some s ↦ record { stop = s; len = len } ]

-- the piece with which the text begins
abbrev pub piece_of : ℕ → List ℕ → Piece
piece_of quote z = piece_from quote false 0 z

-- whether one `:` that no `:` follows stands at the front
abbrev pub is_touched : List ℕ → Bool
is_touched z = slice_index z 0 == 58 && not (slice_index z 1 == 58)
