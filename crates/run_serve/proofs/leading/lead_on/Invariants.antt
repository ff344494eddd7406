use Rattle.std.proofs.Common.{◌≡◌, ◌++◌, ◌<◌, ◌^◌, List}
use Rattle.std.specs.Prelude.{None}
use Rattle.run_queues.specs.declared.heard.Heard.{Heard}
use Rattle.run_serve.specs.Deeds.{AreWhole, Did}
use Rattle.run_serve.specs.Leading.{HasLooked, HasTaken, IsWaiting}
use Rattle.run_serve.proofs.leading.lead_on.Given as goal

abbrev pub invariant-rounds : goal.invariant-rounds
invariant-rounds g l = record {
  heard : List Heard;
  same : l.pass.heard ≡ l.initial.pass.heard ++ heard;
  did : Did l.initial.core.state heard l.core.state (record { held = g.K.Sink.held l.initial.sink; told = g.T.Trace.told l.initial.trace })
      (record { held = g.K.Sink.held l.sink; told = g.T.Trace.told l.trace });
  whole : AreWhole heard;
  unfailed : g.K.Sink.faults l.sink ≡ g.K.Sink.faults l.initial.sink;
  inbox : (l.pass.queue ≡ l.initial.pass.queue) × (l.pass.sent ≡ l.initial.pass.sent);
  none : l.pass.kept ≡ None;
  seat : (l.seat.gate ≡ l.initial.seat.gate) × (l.seat.drawn ≡ l.initial.seat.drawn) × (l.seat.left ≡ l.initial.seat.left);
  looked : HasLooked l.initial.path_seat l.path_seat;
  taken : HasTaken l.initial.items l.items 0 l.keeping.taken;
  few : l.keeping.taken < 2 ^ 32;
  item : IsWaiting l.core.job l.keeping.item;
  job : l.core.job ≡ l.initial.core.job;
  checks : l.core.own_checks ≡ l.initial.core.own_checks;
}
