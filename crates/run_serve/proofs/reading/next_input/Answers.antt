use Rattle.std.proofs.Common.{Ok, refl, sym, ap, ◌∙◌, subst, ◌++◌, ◌∷◌, []}
use Rattle.lsp_msg.specs.Decoded.{decoded}
use Rattle.lsp_msg.specs.declared.msg.Msg.{Msg as Message}
use Rattle.run_serve.specs.Hearing.{Heard, is_exit}
use Rattle.run_serve.proofs.Hearing.{exit_heard, next_body, next_end, next_refused, next_lost}
use Rattle.run_serve.proofs.reading.next_input.Goals as goal

pub returns-then-exited : goal.returns-then-exited
returns-then-exited g c =
    λ left faults messages heard. exit_heard left _ _ faults _ _ _ c.args.frames.now _ messages heard c.if-exited.true refl

pub returns-in-Ok : goal.returns-in-Ok
returns-in-Ok g c =
    λ left faults messages heard.
    subst (λ (m : Message). Heard left (g.S.Source.left c.next.new.source) faults (g.S.Source.faults c.next.new.source) c.next.new.self (is_exit m) (messages ++ m ∷ []))
    (sym (c.in-Ok.ensures ∙ ap decoded c.as_slice.ensures.value))
    (next_body left _ _ faults _ _ _ _ _ messages heard c.next.result c.in-Ok-Body.body (c.next.ensures.next c.requires.going) (c.in-Ok-Body.is ∙ ap Ok c.in-Ok-Body.field-0-is) c.if-exited.false)

pub returns-in-Ok-Body : goal.returns-in-Ok-Body
returns-in-Ok-Body g c =
    λ left faults messages heard. next_lost left _ _ faults _ _ _ _ _ messages heard c.next.result (c.next.ensures.next c.requires.going)

pub returns-in-Ok-End : goal.returns-in-Ok-End
returns-in-Ok-End g c =
    λ left faults messages heard.
    next_end left _ _ faults _ _ _ _ _ messages heard c.next.result (c.next.ensures.next c.requires.going) (c.in-Ok-End.is ∙ ap Ok c.in-Ok-End.field-0-is) c.if-exited.false

pub returns-in-Some : goal.returns-in-Some
returns-in-Some g c =
    λ left faults messages heard.
    next_refused left _ _ faults _ _ _ _ _ messages heard c.next.result c.in-Err.end c.in-Some.cause (c.next.ensures.next c.requires.going) c.in-Err.is (sym c.end_for.ensures ∙ c.in-Some.is) c.if-exited.false

pub returns : goal.returns
returns g c =
    λ left faults messages heard. next_lost left _ _ faults _ _ _ _ _ messages heard c.next.result (c.next.ensures.next c.requires.going)
