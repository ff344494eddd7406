-- When a call on a source or a sink in memory fails, and how many bytes a read may move.
use Rattle.std.specs.Prelude.{◌==◌, ℕ, ◌-◌, ◌^◌, min, max, Bool, List, [], ◌∷◌, length, slice_index}
use Rattle.std.specs.List.{list_any}

-- whether the call with this number, counted from 1, is listed as one that fails
abbrev pub fails_at : List ℕ → ℕ → Bool
fails_at fail_at call = list_any (λ k. k == call) fail_at

-- the most bytes that the read with this number, counted from 1, moves: those of its own piece, after the last piece
-- those of the last one, and always one at least; with no pieces all
abbrev pub piece_at : List ℕ → ℕ → ℕ
piece_at [] call = 2 ^ 64 - 1
piece_at (p ∷ ps) call = max (slice_index (p ∷ ps) (min (call - 1) (length ps))) 1
