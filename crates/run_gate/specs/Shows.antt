-- What a seat of a gate shows: what it knows for as long as it alone steps.
use Rattle.std.specs.Prelude.{ℕ, Bool, List}
use Rattle.atomic_table.specs.Seated.{TableId}

-- which gate it is of, the numbers that it drew in that order, whether it saw the stop word at 1, whether it raised, and how many numbers it may still draw
pub record SeatView : Type 0 where
  pub gate : TableId
  pub drawn : List ℕ
  pub saw : Bool
  pub raised : Bool
  pub left : ℕ
