-- What the outside tells of a call.
use Rattle.std.specs.Prelude.{◌≡◌, ℕ, List, Option}
use Rattle.std.specs.Io.KnownBytes.{Appends, Consumes}
use Rattle.srb_io.specs.Counts.{HasRisen}
use Rattle.srb_io.specs.Told.{AppendsPart}

-- the bytes that the source had left before the call and has after it, those that the sink held and holds, and the
-- counts of failed reads and writes before and after it
pub record Course : Type 0 where
  pub left_before : Option (List ℕ)
  pub left_after : Option (List ℕ)
  pub held_before : Option (List ℕ)
  pub held_after : Option (List ℕ)
  pub reads_before : ℕ
  pub reads_after : ℕ
  pub writes_before : ℕ
  pub writes_after : ℕ

-- no read failed, and no write failed
abbrev pub NoReadFailed : Course → Type 0
NoReadFailed c = c.reads_after ≡ c.reads_before

abbrev pub NoWriteFailed : Course → Type 0
NoWriteFailed c = c.writes_after ≡ c.writes_before

abbrev pub AReadFailed : Course → Type 0
AReadFailed c = HasRisen c.reads_before c.reads_after

abbrev pub AWriteFailed : Course → Type 0
AWriteFailed c = HasRisen c.writes_before c.writes_after

-- the source gave just these bytes
abbrev pub Reads : Course → List ℕ → Type 0
Reads c bytes = Consumes c.left_before c.left_after bytes

-- just these bytes were written
abbrev pub Writes : Course → List ℕ → Type 0
Writes c bytes = Appends c.held_before c.held_after bytes

-- a first part of these bytes was written, and not all of them
abbrev pub WritesPart : Course → List ℕ → Type 0
WritesPart c bytes = AppendsPart c.held_before c.held_after bytes

-- nothing was read of the source, and no read of it failed
abbrev pub ReadsNothing : Course → Type 0
ReadsNothing c = (c.left_after ≡ c.left_before) × NoReadFailed c

-- nothing was read of the source, nothing was written, and nothing of the two failed
pub record IsUntouched (c : Course) : Type 0 where
  pub unread : c.left_after ≡ c.left_before
  pub unwritten : c.held_after ≡ c.held_before
  pub reads : NoReadFailed c
  pub writes : NoWriteFailed c
