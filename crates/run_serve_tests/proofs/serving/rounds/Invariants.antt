use Rattle.std.proofs.Common.{◌≡◌}
use Rattle.std.specs.Prelude.{None}
use Rattle.run_serve_tests.proofs.serving.rounds.Given as goal

abbrev pub invariant-rounds : goal.invariant-rounds
invariant-rounds g l = (g.K.Sink.faults l.sink ≡ 0) × (l.pass.queue ≡ l.initial.pass.queue) × (l.pass.kept ≡ None) × (l.seat.gate ≡ l.initial.seat.gate)
