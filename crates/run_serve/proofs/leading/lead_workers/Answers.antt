use Rattle.std.proofs.Common.{ap, ⊎_elim}
use Rattle.run_serve.proofs.Owed.{led_ill, led_same, led_well, ok_or_err}
use Rattle.run_serve.proofs.leading.lead_workers.Goals as goal

pub returns-clause-names : goal.returns-clause-names
returns-clause-names g c =
    let w = c.with_workers-ended in
    ok_or_err w.result w.ensures.led w.ensures.refused
    (λ path is led. led.0)
    (λ want is refused.
    ⊎_elim
    (λ same. (ap (λ l. l.core.ghost_name) same, ap (λ l. l.pass.ghost_name) same, ap (λ l. l.seat.ghost_name) same, ap (λ l. l.sink.ghost_name) same, ap (λ l. l.trace.ghost_name) same, ap (λ l. l.steps.ghost_name) same))
    (λ led. led.1.0) refused)

pub returns-clause-led : goal.returns-clause-led
returns-clause-led g c =
    let w = c.with_workers-ended in
    ok_or_err w.result w.ensures.led w.ensures.refused
    (λ path is led. led_well c.ended_by.result w.result path w.new.chief.faulted c.ended_by.ensures is led.2)
    (λ want is refused. led_ill c.ended_by.result w.result want w.new.chief.faulted c.ended_by.ensures is
    (⊎_elim
    (λ same. led_same (ap (λ l. record { core = l.core.now; pass = l.pass.now; seat = l.seat.now; kept = record { held = g.K.Sink.held l.sink.now; told = g.T.Trace.told l.trace.now }; faults = g.K.Sink.faults l.sink.now }) same))
    (λ led. led.1.2) refused))
