-- What a source has left and what a sink holds, where they tell it: `Some` of the bytes, or `None`. The words for one
-- read and one write, `Consumes`, `Appends`, `Keeps` and `IsAtEnd`, are std's, of `Io.KnownBytes`.
use Rattle.std.specs.Prelude.{◌≡◌, ℕ, ◌<◌, ◌≤◌, List, length, take, ⊤, None, Some}
use Rattle.std.specs.declared.option.Option.{Option}
use Rattle.std.specs.Io.KnownBytes.{Consumes, Appends}

-- the bytes are all that was told, if anything was
abbrev pub IsTold : Option (List ℕ) → List ℕ → Type 0
IsTold None bytes = ⊤
IsTold (Some all) bytes = all ≡ bytes

-- more than `most` bytes were told, if any were
abbrev pub IsPast : ℕ → Option (List ℕ) → Type 0
IsPast most None = ⊤
IsPast most (Some all) = most < length all

-- a source gave at most n bytes
abbrev pub ConsumesWithin : Option (List ℕ) → Option (List ℕ) → ℕ → Type 0
ConsumesWithin old new n = (bytes : List ℕ) × Consumes old new bytes × (length bytes ≤ n)

-- a source gave just n bytes
abbrev pub ConsumesLength : Option (List ℕ) → Option (List ℕ) → ℕ → Type 0
ConsumesLength old new n = (bytes : List ℕ) × Consumes old new bytes × (length bytes ≡ n)

-- a sink took a first part of the piece, and not all of it
abbrev pub AppendsPart : Option (List ℕ) → Option (List ℕ) → List ℕ → Type 0
AppendsPart old new piece = (n : ℕ) × (n < length piece) × Appends old new (take n piece)
