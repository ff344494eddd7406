-- Why a session ends.
use Rattle.std.specs.Prelude.{◌≡◌, Bool, Some, Result, Ok, Err, if◌then◌else◌}
use Rattle.run_watch.specs.declared.end_cause.EndCause.{EndCause}
use Rattle.run_watch.specs.declared.end_cause.EndCause.TheVariants as end
use Rattle.run_core.specs.Machine.{State}
use Rattle.run_core.specs.Cores.{end_taken}
use Rattle.run_serve.specs.declared.serve_end.ServeEnd.{ServeEnd}
use Rattle.run_serve.specs.declared.serve_end.ServeEnd.TheVariants.{WriteFault, NoMemory}
use Rattle.srb_terms.specs.declared.cause.Cause.{Cause}
use Rattle.srb_terms.specs.declared.cause.Cause.TheVariants as cause

-- why a session ends by its end, and by whether a `shutdown` was accepted
abbrev pub cause_of : EndCause → Bool → Cause
cause_of end.Exit accepted = if accepted then cause.Done else cause.NoShutdown
cause_of end.Closed accepted = cause.NoShutdown
cause_of (end.Broken at) accepted = cause.Broken at
cause_of (end.TooLong size) accepted = cause.TooLong size
cause_of end.Fault accepted = cause.ReadFault
cause_of end.NoMemory accepted = cause.NoMemory

-- why a session ends where its coordinator stops before the input ends
abbrev pub cause_of_stop : ServeEnd → Cause
cause_of_stop WriteFault = cause.WriteFault
cause_of_stop NoMemory = cause.NoMemory

-- The cause of a session's end, by how its coordinator stopped and by the state of its core: that of the end that the core took where all
-- was done, else the coordinator's.
abbrev pub IsCauseBy : {T : Type 0} → Result T ServeEnd → State → Cause → Type 0
IsCauseBy (Ok done) s why = (p : EndCause × Bool) × (end_taken s ≡ Some p) × (why ≡ cause_of p.0 p.1)
IsCauseBy (Err stop) s why = why ≡ cause_of_stop stop
