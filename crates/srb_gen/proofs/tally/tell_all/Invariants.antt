use Rattle.std.proofs.Common.{◌≡◌, take}
use Rattle.run_watch.specs.Told.{with_steps}
use Rattle.srb_gen.proofs.tally.tell_all.Given as goal

-- the trace was told the steps so far
abbrev pub invariant-steps : goal.invariant-steps
invariant-steps g l = g.T.Trace.told l.trace ≡ with_steps (g.T.Trace.told l.initial.trace) (take l.step-index l.steps)
