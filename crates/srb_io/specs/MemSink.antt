-- What a sink in memory does at its next write.
use Rattle.std.specs.Prelude.{◌≡◌, ℕ, ◌+◌, ◌-◌, ◌^◌, min}
use Rattle.srb_io.specs.declared.mem_sink.MemSink.{MemSink}

-- the number of the next write, counted from 1, with no end of the count but that of 64 bits
abbrev pub next_write : MemSink → ℕ
next_write s = min (s.calls + 1) (2 ^ 64 - 1)

-- the listed writes stay, and the write was counted
pub record IsNextTo (old new : MemSink) : Type 0 where
  pub fail_at : new.fail_at ≡ old.fail_at
  pub calls : new.calls ≡ next_write old
