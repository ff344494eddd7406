-- What a coordinator does while workers run.
use Rattle.std.specs.Prelude.{◌≡◌, ◌⊎◌, ℕ, ◌+◌, Bool, true, false, List, [], ◌++◌, length, Option, None, Some, Result, Ok, Err, OnOk, IsTrue, IsFalse}
use Rattle.std.specs.declared.alloc.AllocError.{AllocError}
use Rattle.srb_check.specs.Found.{IsFoundIn}
use Rattle.srb_check.specs.Jobs.{Known}
use Rattle.lsp_docs.specs.Paths.{Path, has}
use Rattle.run_gate.specs.Shows.{SeatView}
use Rattle.run_queues.specs.declared.item.Item.{Item}
use Rattle.run_queues.specs.Hearings.{Hearing}
use Rattle.run_queues.specs.Showings.{Showing}
use Rattle.run_core.specs.Machine.{State, is_at_rest}
use Rattle.run_core.specs.Runs.{IsOver}
use Rattle.run_core.specs.Cores.{Account}
use Rattle.run_serve.specs.declared.serve_end.ServeEnd.{ServeEnd}
use Rattle.run_serve.specs.declared.serve_end.ServeEnd.TheVariants.{WriteFault, NoMemory}
use Rattle.run_serve.specs.Deeds.{Kept, Turns}

-- the symbol table is stale, or each file that is to be worked on is owed
abbrev pub IsOwedWhole : State → Type 0
IsOwedWhole s = IsTrue s.stale ⊎ ((f : Path) → IsTrue (has f s.todo) → IsTrue (has f s.owed))

-- the item that waits, if there is one, is right by the job
abbrev pub IsWaiting : Known → Option Item → Type 0
IsWaiting job None = Unit {0}
IsWaiting job (Some item) = IsFoundIn job item.number item.list

-- a seat that at most looked
abbrev pub HasLooked : SeatView → SeatView → Type 0
HasLooked before after = (after.gate ≡ before.gate) × (after.drawn ≡ before.drawn) × (after.left ≡ before.left) × (after.raised ≡ before.raised)

-- a pass of results that at most took: it may take as many as before, those counted that it took since
abbrev pub HasTaken : (before after : Showing Known) → (taken_before taken : ℕ) → Type 0
HasTaken before after taken_before taken =
    (after.queue ≡ before.queue) × (after.view ≡ before.view) × (after.gave ≡ before.gave)
    × ((more : List Item) × (after.got ≡ before.got ++ more))
    × (after.left + taken ≡ before.left + taken_before)
    × (length after.got + after.left ≡ length before.got + before.left)

-- the leader raises the gate of the path where it is cut short, or where the symbol table is stale
abbrev pub raises : {T : Type 0} → Result T ServeEnd → State → Bool
raises (Ok done) s = s.stale
raises (Err end) s = true

-- how a leader ended, by what it answers and by whether a write failed
abbrev pub how_led : Result (Unit {0}) AllocError → (faulted : Bool) → Result (Unit {0}) ServeEnd
how_led (Ok done) true = Err WriteFault
how_led (Ok done) false = Ok tt
how_led (Err want) faulted = Err NoMemory

-- how the path of a build ended for the coordinator, by whether it ended well and by whether a write failed
abbrev pub how_path : {P E : Type 0} → Result P E → (faulted : Bool) → Result (Unit {0}) ServeEnd
how_path (Ok path) true = Err WriteFault
how_path (Ok path) false = Ok tt
how_path (Err want) faulted = Err NoMemory

-- what a coordinator has in hand: its core, its pass of the inbox, its seat at the gate of the session, what the sink holds and the trace tells, and the count of failed writes
pub record Desk : Type 0 where
  pub core : Account
  pub pass : Hearing
  pub seat : SeatView
  pub kept : Kept
  pub faults : ℕ

-- What a coordinator did while workers ran. Where it ended well, nothing is stale and nothing is left to work on, or the table is stale.
pub record HasLed (how : Result (Unit {0}) ServeEnd) (old new : Desk) : Type 0 where
  pub turns : Turns how old.core.state new.core.state old.pass.heard new.pass.heard old.kept new.kept old.faults new.faults
  pub rest : OnOk how (IsFalse new.core.state.stale → IsTrue (is_at_rest new.core.state))
  pub checks : new.core.own_checks ≡ old.core.own_checks
  pub inbox : (new.pass.queue ≡ old.pass.queue) × (new.pass.sent ≡ old.pass.sent)
  pub none : OnOk how (new.pass.kept ≡ None)
  pub seat : (new.seat.gate ≡ old.seat.gate) × (new.seat.drawn ≡ old.seat.drawn) × (new.seat.left ≡ old.seat.left)

-- What a coordinator did in a session. Where it ended well the session is over.
pub record HasServed (how : Result (Unit {0}) ServeEnd) (old new : Desk) : Type 0 where
  pub turns : Turns how old.core.state new.core.state old.pass.heard new.pass.heard old.kept new.kept old.faults new.faults
  pub over : OnOk how (IsOver new.core.state)
  pub inbox : new.pass.queue ≡ old.pass.queue
  pub gate : new.seat.gate ≡ old.seat.gate
