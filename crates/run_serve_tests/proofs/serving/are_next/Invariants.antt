use Rattle.std.proofs.Common.{◌≡◌}
use Rattle.run_serve_tests.proofs.serving.are_next.Given as goal

abbrev pub invariant-words : goal.invariant-words
invariant-words g l = (l.pass.queue ≡ l.inbox.name) × (l.pass.queue ≡ l.initial.pass.queue)
