-- What a source in memory does at its next read.
use Rattle.std.specs.Prelude.{◌≡◌, ℕ, ◌+◌, ◌-◌, ◌^◌, min, length, drop, if◌then◌else◌, Ok, Err}
use Rattle.std.specs.declared.result.Result.{Result}
use Rattle.srb_io.specs.declared.writing.Failed.{Failed}
use Rattle.srb_io.specs.declared.mem_source.MemSource.{MemSource}
use Rattle.srb_io.specs.Memory.{fails_at, piece_at}

-- the number of the next read, counted from 1, with no end of the count but that of 64 bits
abbrev pub next_read : MemSource → ℕ
next_read s = min (s.calls + 1) (2 ^ 64 - 1)

-- a listed read fails, and any other moves what is left, as much as the room and the piece allow
abbrev pub read_answer : MemSource → (room : ℕ) → Result ℕ Failed
read_answer s room =
    if fails_at s.fail_at.items (next_read s) then Err (record {}) else Ok (min (min (length (drop s.at s.bytes.items)) room) (piece_at s.pieces.items (next_read s)))

-- the bytes, the pieces and the listed reads stay, and the read was counted
pub record IsNextTo (old new : MemSource) : Type 0 where
  pub bytes : new.bytes ≡ old.bytes
  pub pieces : new.pieces ≡ old.pieces
  pub fail_at : new.fail_at ≡ old.fail_at
  pub calls : new.calls ≡ next_read old
