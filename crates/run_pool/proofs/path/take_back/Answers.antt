use Rattle.std.proofs.Common.{ap, subst, ◌∙◌, List, rules}
use Rattle.srb_check.specs.Jobs.{Known}
use Rattle.run_gate.specs.Shows.{SeatView}
use Rattle.run_queues.specs.Showings.{Showing}
use Rattle.run_pool.specs.declared.path.Place.{Place}
use Rattle.run_pool.specs.Dealt.{EachNew}
use Rattle.run_pool.proofs.Courses.{EachNew-last}
use Rattle.run_pool.proofs.path.take_back.Goals as goal

pub join-requires : goal.join-requires
join-requires g c =
    let new =
    EachNew-last c.args.job.now c.args.gate.now c.args.results.now c.pop.new.self.items c.in-Some.place
    (subst (λ (ps : List Place). EachNew c.args.job.now c.args.gate.now c.args.results.now ps) c.in-Some.ensures.items c.loop-place.invariant.places) in
    record { gate = (c.loop-place.invariant.seat, ap (λ (v : SeatView). v.gate) new.1.seat_is) }

pub join-requires-in-Some-clause-other : goal.join-requires-in-Some-clause-other
join-requires-in-Some-clause-other g c =
    let new =
    EachNew-last c.args.job.now c.args.gate.now c.args.results.now c.pop.new.self.items c.in-Some.place
    (subst (λ (ps : List Place). EachNew c.args.job.now c.args.gate.now c.args.results.now ps) c.in-Some.ensures.items c.loop-place.invariant.places) in
    ap (λ (v : Showing Known). v.queue) new.1.pass_is

pub loop-place-preserved : goal.loop-place-preserved
loop-place-preserved g c =
    let new =
    EachNew-last c.args.job.now c.args.gate.now c.args.results.now c.pop.new.self.items c.in-Some.place
    (subst (λ (ps : List Place). EachNew c.args.job.now c.args.gate.now c.args.results.now ps) c.in-Some.ensures.items c.loop-place.invariant.places) in
    record {
      places = new.0;
      seat = c.join.ensures.gate ∙ c.loop-place.invariant.seat;
      pass = search rules;
    }
