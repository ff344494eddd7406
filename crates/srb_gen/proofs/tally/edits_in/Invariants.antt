use Rattle.std.proofs.Common.{◌≡◌, take}
use Rattle.srb_gen.specs.Tallies.{edits_in}
use Rattle.srb_gen.proofs.tally.edits_in.Given as goal

-- the edits of the steps so far
abbrev pub invariant-steps : goal.invariant-steps
invariant-steps l = l.edits ≡ edits_in (take l.step-index l.steps)
