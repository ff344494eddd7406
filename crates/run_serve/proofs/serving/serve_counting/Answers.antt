use Rattle.std.proofs.Common.{ap, subst, List}
use Rattle.run_queues.specs.declared.heard.Heard.{Heard}
use Rattle.run_queues.specs.Deliveries.{IsFront}
use Rattle.run_queues.specs.Hearings.{Hearing}
use Rattle.run_core.specs.Machine.{State, opening}
use Rattle.run_serve.specs.Deeds.{Kept, Turns}
use Rattle.run_serve.proofs.Sessions.{served_nothing, session_ends}
use Rattle.run_serve.proofs.serving.serve_counting.Goals as goal

pub returns-in_default : goal.returns-in_default
returns-in_default g c = served_nothing _ _ _ _ _ _

pub returns-in_default-new : goal.returns-in_default-new
returns-in_default-new g c = served_nothing _ _ _ _ _ _

pub returns-in_default-new-2 : goal.returns-in_default-new-2
returns-in_default-new-2 g c = served_nothing _ _ _ _ _ _

pub returns-in_default-split : goal.returns-in_default-split
returns-in_default-split g c = served_nothing _ _ _ _ _ _

pub returns : goal.returns
returns g c =
    let b = c.run_both-ended in
    let old : Kept = record { held = g.K.Sink.held c.args.sink.now; told = g.T.Trace.told c.args.trace.now } in
    let new : Kept = record { held = g.K.Sink.held b.new.sink; told = g.T.Trace.told b.new.trace } in
    let f = g.K.Sink.faults c.args.sink.now in
    let f' = g.K.Sink.faults b.new.sink in
    let from_start = subst (λ (s : State). Turns b.result s b.new.core.state c.in-Ok-new.taking.heard b.new.taking.heard old new f f') c.in-Ok.ensures.state b.ensures.turns in
    let from_none = subst (λ (p : List Heard). Turns b.result (opening c.args.project) b.new.core.state p b.new.taking.heard old new f f')
    (ap (λ (t : Hearing). t.heard) c.in-Ok-new.ensures.take) from_start in
    let front = subst (λ (h : List Heard). IsFront h b.new.putting.sent) (ap (λ (t : Hearing). t.heard) c.meet.ensures.sent) c.meet.ensures.front in
    session_ends c.args.project _ _ b.result b.new.core.state b.new.putting.sent b.new.taking.heard c.cause_by.result c.requires.ordered b.ensures.sent front from_none
    b.ensures.over c.cause_by.ensures
