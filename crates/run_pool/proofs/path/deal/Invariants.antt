use Rattle.std.proofs.Common.{◌≡◌, ◌+◌, ◌-◌, ◌^◌, ◌≤◌, length}
use Rattle.std.specs.Prelude.{vec_capacity}
use Rattle.run_pool.specs.Dealt.{IsDealt}
use Rattle.run_pool.proofs.path.deal.Given as goal

abbrev pub invariant-deals : goal.invariant-deals
invariant-deals g l = record {
  dealt : IsDealt l.job l.gate l.results l.places.items l.seat l.pass;
  count : length l.places.items ≡ l.count;
  room : l.workers ≤ vec_capacity l.places;
  seat_left : 2 ^ (32 + (16 - l.count)) ≤ l.seat.left;
  pass_left : 2 ^ (32 + (16 - l.count)) ≤ l.pass.left;
}
