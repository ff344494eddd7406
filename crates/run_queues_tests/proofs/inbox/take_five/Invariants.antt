use Rattle.std.proofs.Common.{◌≡◌}
use Rattle.run_queues_tests.proofs.inbox.take_five.Given as goal

abbrev pub invariant-loop : goal.invariant-loop
invariant-loop g l = (l.pass.queue ≡ l.inbox.name) × (l.pass.queue ≡ l.fn.pass.queue)
