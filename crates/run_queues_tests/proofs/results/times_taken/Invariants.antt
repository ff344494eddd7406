use Rattle.std.proofs.Common.{◌≡◌, ◌≤◌, ◌+◌}
use Rattle.run_queues_tests.proofs.results.times_taken.Given as goal

abbrev pub invariant-loop-round : goal.invariant-loop-round
invariant-loop-round g l = (l.pass.queue ≡ l.fn.pass.queue) × (l.pass.queue ≡ l.results.name) × (20 ≤ l.pass.left + l._round)
