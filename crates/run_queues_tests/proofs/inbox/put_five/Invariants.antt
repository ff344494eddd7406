use Rattle.std.proofs.Common.{◌≡◌}
use Rattle.run_queues_tests.proofs.inbox.put_five.Given as goal

abbrev pub invariant-loop-number : goal.invariant-loop-number
invariant-loop-number g l = (l.pass.queue ≡ l.inbox.name) × (l.pass.queue ≡ l.fn.pass.queue)
