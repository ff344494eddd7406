use Rattle.std.proofs.Common.{◌≡◌, vec_len}
use Rattle.run_pool.specs.Dealt.{EachNew}
use Rattle.run_pool.proofs.path.take_back.Given as goal

abbrev pub invariant-loop-place : goal.invariant-loop-place
invariant-loop-place g l = record {
  places : EachNew l.job l.gate l.results l.places.items;
  seat : l.seat.gate ≡ l.gate;
  pass : l.pass.queue ≡ l.results.name;
}

abbrev pub decreases-loop-place : goal.decreases-loop-place
decreases-loop-place g l = vec_len l.places
