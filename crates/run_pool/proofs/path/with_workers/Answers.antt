use Rattle.std.proofs.Common.{◌≡◌, ℕ, ◌+◌, ◌^◌, ◌<◌, List, length, Result, inr, subst, sym, ap, ◌∙◌}
use Rattle.std.specs.declared.alloc.AllocError.{AllocError}
use Rattle.srb_check.specs.Jobs.{Known}
use Rattle.run_gate.specs.Shows.{SeatView}
use Rattle.run_gate.specs.Tickets.{AreJustBelow}
use Rattle.run_pool.specs.Dealt.{seats_left}
use Rattle.run_pool.specs.Paths.{WorkersEnded}
use Rattle.run_pool.specs.Working.{file_count}
use Rattle.run_pool.proofs.Courses.{WorkersEnded-looked, OnErr-lift, all_back, all_drawn}
use Rattle.run_pool.proofs.path.with_workers.Goals as goal

pub returns-in_err-course-clause-refused : goal.returns-in_err-course-clause-refused
returns-in_err-course-clause-refused g c =
    OnErr-lift c.from_residual-in_err-course.result (inr (
      c.run_all-course.result.called,
      subst (λ (r : Result (Unit {0}) AllocError). g.C.Chief.led c.args.chief.now c.run_all-course.result.called r c.run_all-course.new.chief) c.in_err-course.was c.run_all-course.ensures.chief,
    ))

pub returns-clause-led : goal.returns-clause-led
returns-clause-led g c =
    subst (λ (r : Result (Unit {0}) AllocError). g.C.Chief.led c.args.chief.now c.run_all-course.result.called r c.run_all-course.new.chief) c.in_ok-course.was c.run_all-course.ensures.chief

pub returns-clause-short : goal.returns-clause-short
returns-clause-short g c =
    let l = c.look-stopped.ensures in
    WorkersEnded-looked (length c.in_ok-places.places.items) c.args.workers (file_count c.args.job.now) c.run_all-course.new.seat c.look-stopped.new.s c.look-stopped.result
    c.run_all-course.result.short l.same.1 l.saw l.same.2 c.in_ok-places.ensures.count
    (subst (λ (job : Known). WorkersEnded (length c.in_ok-places.places.items) (file_count job) c.run_all-course.new.seat c.run_all-course.result.short) c.get-job.ensures c.run_all-course.ensures.ended)

pub returns-clause-all : goal.returns-clause-all
returns-clause-all g c =
    λ some unseen unshort.
    let l = c.look-stopped.ensures in
    let leads = c.run_all-course.ensures in
    let dealt = c.in_ok-places.ensures.dealt in
    let none : length c.deal.new.seat.drawn ≡ 0 = ap (λ (v : SeatView). length v.drawn) dealt.own.seat_is in
    let whole : length c.run_all-course.new.seat.drawn + c.run_all-course.new.seat.left ≡ 2 ^ 63 =
    all_back _ _ _ _ (seats_left c.in_ok-places.places.items) leads.seats none dealt.seats in
    let just = subst (λ (ns : List ℕ). AreJustBelow (length ns) ns) l.same.1 (l.whole whole).0 in
    let past = all_drawn (length c.in_ok-places.places.items) c.args.workers (file_count c.get-job.result.now) (length c.run_all-course.new.seat.drawn) c.run_all-course.new.seat
    c.run_all-course.result.short c.look-stopped.result c.in_ok-places.ensures.count leads.ended just l.stays some unseen unshort in
    subst (λ (job : Known). file_count job < c.drawn.result) c.get-job.ensures
    (subst (λ (n : ℕ). file_count c.get-job.result.now < n) (sym (c.drawn.ensures ∙ ap (λ (ns : List ℕ). length ns) l.same.1)) past)
