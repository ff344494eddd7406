use Rattle.std.proofs.Crossing.{sync}
use Rattle.std.proofs.Common.{ap, subst, sym, ◌∙◌, List, rules}
use denote.Exit.{no}
use denote.Param.Send.{IsSync, arg_send, mut_send, param_send, param_sync, shr_send}
use Rattle.run_gate.proofs.gate.Gate.TheSendSync as gate
use Rattle.run_gate.proofs.seat.Seat.TheSendSync as seat
use Rattle.run_gate.specs.Shows.{SeatView}
use Rattle.run_queues.specs.Showings.{Showing}
use Rattle.srb_check.specs.Jobs.{Known}
use Rattle.run_pool.specs.declared.path.Place.{Place}
use Rattle.run_pool.specs.Dealt.{EachNew, Leads}
use Rattle.run_pool.proofs.Courses.{EachNew-last, one_more, short_at_once}
use Rattle.run_pool.proofs.Crossing.{closure_send, job_sync, pass_send, results_sync}
use Rattle.run_pool.proofs.path.+running.Goals as goal

pub run_all-run_beside-why-requires-clause-given : goal.run_all-run_beside-why-requires-clause-given
run_all-run_beside-why-requires-clause-given g t c =
    λ κs within.
    (EachNew-last c.args.job.now c.args.gate.now c.args.results.now c.pop.new.self.items c.in-Some.place
    (subst (λ (ps : List Place). EachNew c.args.job.now c.args.gate.now c.args.results.now ps) c.in-Some.ensures.items c.requires.places)).1

pub run_all-run_beside-why-requires-clause-places : goal.run_all-run_beside-why-requires-clause-places
run_all-run_beside-why-requires-clause-places g t c =
    λ κs within.
    (EachNew-last c.args.job.now c.args.gate.now c.args.results.now c.pop.new.self.items c.in-Some.place
    (subst (λ (ps : List Place). EachNew c.args.job.now c.args.gate.now c.args.results.now ps) c.in-Some.ensures.items c.requires.places)).0

pub run_all-join-requires : goal.run_all-join-requires
run_all-join-requires g t c =
    let e = c.run_beside-why.ensures in
    let new =
    EachNew-last c.args.job.now c.args.gate.now c.args.results.now c.pop.new.self.items c.in-Some.place
    (subst (λ (ps : List Place). EachNew c.args.job.now c.args.gate.now c.args.results.now ps) c.in-Some.ensures.items c.requires.places) in
    record {
      gate = (
        e.leads.gate ∙ ap (λ (v : SeatView). v.gate) c.requires.new.seat_is,
        e.works.keeps_seat.0 ∙ ap (λ (v : SeatView). v.gate) new.1.seat_is,
      );
    }

pub run_all-join-requires-2-clause-other : goal.run_all-join-requires-2-clause-other
run_all-join-requires-2-clause-other g t c =
    let new =
    EachNew-last c.args.job.now c.args.gate.now c.args.results.now c.pop.new.self.items c.in-Some.place
    (subst (λ (ps : List Place). EachNew c.args.job.now c.args.gate.now c.args.results.now ps) c.in-Some.ensures.items c.requires.places) in
    c.run_beside-why.ensures.works.keeps_pass.0 ∙ ap (λ (v : Showing Known). v.queue) new.1.pass_is

pub run_all-returns : goal.run_all-returns
run_all-returns g t c =
    let e = c.run_beside-why.ensures in
    let j = c.join.ensures in
    let new =
    EachNew-last c.args.job.now c.args.gate.now c.args.results.now c.pop.new.self.items c.in-Some.place
    (subst (λ (ps : List Place). EachNew c.args.job.now c.args.gate.now c.args.results.now ps) c.in-Some.ensures.items c.requires.places) in
    let led = g.C.Chief.led in
    subst (λ (ps : List Place). Leads led c.args.job.now ps c.args.chief.now c.run_beside-why.new.chief c.args.seat.now c.join.new.s c.args.pass.now c.join-2.new.p
    (record { answer = c.run_beside-why.result.1.answer; called = c.run_beside-why.result.1.called; short = c.is_short_or.result })) (sym {A = List Place} c.in-Some.ensures.items)
    (one_more led c.args.job.now c.args.gate.now c.args.results.now c.pop.new.self.items c.in-Some.place
    c.args.chief.now c.run_beside-why.new.chief c.args.seat.now c.run_beside-why.new.seat c.join.new.s c.run_beside-why.new.given_seat
    c.args.pass.now c.run_beside-why.new.pass c.join-2.new.p c.run_beside-why.new.given_pass c.run_beside-why.result.0 c.run_beside-why.result.1 c.is_short_or.result
    new.1 e.works e.leads
    (record { drawn = j.drawn; saw = j.saw; raised = j.raised; left = j.left; gate = j.gate })
    c.join-2.ensures c.is_short_or.ensures)

-- what the closure holds that is sent: the worker's seat and pass, and references to the rest
pub run_beside-run_beside-requires-send-F : goal.run_beside-run_beside-requires-send-F
run_beside-run_beside-requires-send-F g t c κs within =
    let r : IsSync g.row.R = search rules parts 8 in
    let h : IsSync g.row.H = search rules parts 8 in
    param_send 1 _ (arg_send _ no _ (closure_send _ _ _ _ _ _ _ _ _ (shr_send _ _ _ (param_sync 0 _ r)) (shr_send _ _ _ sync) (shr_send _ _ _ job_sync)
    (shr_send _ _ _ gate.the_sync) (mut_send _ _ _ seat.the_send) (shr_send _ _ _ results_sync) (mut_send _ _ _ pass_send)
    (shr_send _ _ _ (param_sync 1 _ h))))

pub run_beside-returns-in-Err-clause-works : goal.run_beside-returns-in-Err-clause-works
run_beside-returns-in-Err-clause-works g t c =
    let r = c.raise.ensures in
    let unraised = ap (λ (v : SeatView). v.raised) c.requires.given.seat_is in
    short_at_once _ _ _ _ _ unraised (search (rules, r.raised), search (rules, r.same.0), search (rules, r.same.1), search (rules, r.same.3)) (search rules)
