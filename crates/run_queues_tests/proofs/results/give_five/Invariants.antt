use Rattle.std.proofs.Common.{◌≡◌, ◌≤◌, ◌+◌, Some}
use Rattle.run_queues_tests.proofs.results.give_five.Given as goal

abbrev pub invariant-loop-number : goal.invariant-loop-number
invariant-loop-number g l = (l.pass.queue ≡ l.results.name) × (l.pass.queue ≡ l.fn.pass.queue) × (l.pass.view ≡ Some (record { bound = 10 })) × (l.pass.view ≡ l.fn.pass.view)
    × (l.fn.pass.left + l.first ≤ l.pass.left + l.number)
    × (l.back + l.first ≤ l.number)
