-- The status with which the program ends.
use Rattle.std.specs.Prelude.{ℕ}
use Rattle.srb_terms.specs.declared.cause.Cause.{Cause}
use Rattle.srb_terms.specs.declared.cause.Cause.TheVariants.{Done, Errors, NoShutdown, Usage, ReadFault, WriteFault, Broken, TooLong, TooMany, TooBig, NoMemory}

-- the status that a cause gives
abbrev pub status_of : Cause → ℕ
status_of Done = 0
status_of Errors = 1
status_of NoShutdown = 1
status_of Usage = 2
status_of ReadFault = 3
status_of WriteFault = 4
status_of (Broken at) = 5
status_of (TooLong length) = 6
status_of (TooMany files) = 6
status_of (TooBig path) = 6
status_of NoMemory = 7
