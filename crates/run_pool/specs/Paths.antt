-- How the path of a build ended: its workers and its chief.
use Rattle.std.specs.Prelude.{◌≡◌, ◌⊎◌, ℕ, ◌≤◌, ◌==◌, Bool, true, false, ◌||◌, List, [], ◌∷◌, ◌++◌, length, Result, Err, alloc_error, if◌then◌else◌}
use Rattle.std.specs.declared.alloc.AllocError.{AllocError}
use Rattle.run_gate.specs.Shows.{SeatView}
use Rattle.run_pool.specs.declared.worker_end.Why.{Why}
use Rattle.run_pool.specs.declared.worker_end.Why.TheVariants.{Drained, Stopped, NoMemory}
use Rattle.run_pool.specs.Working.{is_short}

-- the room of a queue for the items of so many files
abbrev pub room_for : ℕ → ℕ
room_for files = if files == 0 then 1 else files

-- among the numbers that were drawn stands one that is no file's
abbrev pub DrewPast : (files : ℕ) → List ℕ → Type 0
DrewPast files drawn = (before : List ℕ) × (last : ℕ) × (after : List ℕ) × (drawn ≡ before ++ last ∷ after) × (files ≤ last)

-- what the seat shows, into which a worker's was joined that ended so
abbrev pub ShowsEnd : (files : ℕ) → SeatView → Why → Type 0
ShowsEnd files seat Drained = DrewPast files seat.drawn
ShowsEnd files seat Stopped = seat.saw ≡ true
ShowsEnd files seat NoMemory = seat.raised ≡ true

-- the same of workers that ended so
abbrev pub ShowsEnds : (files : ℕ) → SeatView → List Why → Type 0
ShowsEnds files seat [] = Unit {0}
ShowsEnds files seat (why ∷ ends) = ShowsEnd files seat why × ShowsEnds files seat ends

-- some worker was out of memory
abbrev pub any_short : List Why → Bool
any_short [] = false
any_short (why ∷ ends) = is_short why || any_short ends

-- So many workers ended, which the seat shows, and this says whether one was out of memory.
pub record WorkersEnded (workers files : ℕ) (seat : SeatView) (short : Bool) : Type 0 where
  pub ends : List Why
  pub count : length ends ≡ workers
  pub shown : ShowsEnds files seat ends
  pub is : short ≡ any_short ends

-- the chief is as before, or it led, whether it raised its seat or not, and was out of memory
abbrev pub IsRefused : {C : Type 0} → (C → Bool → Result (Unit {0}) AllocError → C → Type 0) → (old new : C) → Type 0
IsRefused led old new = (new ≡ old) ⊎ ((raised : Bool) × led old raised (Err alloc_error) new)
