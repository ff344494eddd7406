use Rattle.std.proofs.Common.{◌≡◌}
use Rattle.run_serve.specs.Hearing.{IsReading}
use Rattle.run_serve.proofs.reading.read.Given as goal

abbrev pub invariant-inputs : goal.invariant-inputs
invariant-inputs g l = record {
  reading : IsReading (g.S.Source.left l.initial.source) (g.S.Source.left l.source) (g.S.Source.faults l.initial.source) (g.S.Source.faults l.source)
      l.frames l.exited l.pass.sent;
  inbox : l.pass.queue ≡ l.initial.pass.queue;
  seat : (l.seat.gate ≡ l.initial.seat.gate) × (l.seat.drawn ≡ l.initial.seat.drawn) × (l.seat.left ≡ l.initial.seat.left);
}
