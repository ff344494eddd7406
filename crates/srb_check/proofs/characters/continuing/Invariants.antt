use Rattle.std.proofs.Common.{◌≡◌, ◌+◌, drop}
use Rattle.srb_check.specs.Characters.{continuing}
use Rattle.srb_check.proofs.characters.continuing.Given as goal

abbrev pub invariant-loop-at : goal.invariant-loop-at
invariant-loop-at l = continuing l.bytes ≡ l.at + continuing (drop l.at l.bytes)
