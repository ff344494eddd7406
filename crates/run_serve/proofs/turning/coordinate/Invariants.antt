use Rattle.std.proofs.Common.{◌≡◌, ◌++◌, ◌<◌, List}
use Rattle.std.specs.Prelude.{None}
use Rattle.run_queues.specs.declared.heard.Heard.{Heard}
use Rattle.run_serve.specs.Deeds.{AreWhole, Did}
use Rattle.run_serve.specs.Leading.{IsOwedWhole}
use Rattle.run_serve.proofs.turning.coordinate.Given as goal

abbrev pub invariant-turns : goal.invariant-turns
invariant-turns g l = record {
  heard : List Heard;
  same : l.pass.heard ≡ l.initial.pass.heard ++ heard;
  did : Did l.initial.core.state heard l.core.state (record { held = g.K.Sink.held l.initial.sink; told = g.T.Trace.told l.initial.trace })
      (record { held = g.K.Sink.held l.sink; told = g.T.Trace.told l.trace });
  whole : AreWhole heard;
  unfailed : g.K.Sink.faults l.sink ≡ g.K.Sink.faults l.initial.sink;
  inbox : (l.pass.queue ≡ l.initial.pass.queue) × (l.pass.sent ≡ l.initial.pass.sent);
  none : l.pass.kept ≡ None;
  owed : 0 < l.workers → IsOwedWhole l.initial.core.state → (l.core.own_checks ≡ l.initial.core.own_checks) × IsOwedWhole l.core.state;
  seat : (l.seat.gate ≡ l.initial.seat.gate) × (l.seat.drawn ≡ l.initial.seat.drawn) × (l.seat.left ≡ l.initial.seat.left);
}
