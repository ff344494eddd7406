use Rattle.std.proofs.Common.{◌≡◌}
use Rattle.run_pool.proofs.worker.hand_over.Given as goal

abbrev pub invariant-tries : goal.invariant-tries
invariant-tries g l = record {
  item : l.item ≡ l.initial.item;
  pass : l.pass ≡ l.initial.pass;
  seat : (l.seat.gate ≡ l.initial.seat.gate) × (l.seat.drawn ≡ l.initial.seat.drawn) × (l.seat.raised ≡ l.initial.seat.raised) × (l.seat.left ≡ l.initial.seat.left);
}
