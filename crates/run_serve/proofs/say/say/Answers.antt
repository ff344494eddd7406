use Rattle.std.proofs.Common.{Ok, Err, ap, sym, ◌∙◌, subst}
use Rattle.std.specs.Prelude.{Option, Some}
use Rattle.lsp_frame.specs.Written.{frame}
use Rattle.lsp_msg.specs.declared.out.Out.{Out}
use Rattle.run_serve.specs.declared.serve_end.ServeEnd.{ServeEnd}
use Rattle.run_serve.specs.Deeds.{Says}
use Rattle.run_serve.proofs.Rounds.{said_whole, said_short}
use Rattle.run_serve.proofs.say.say.Goals as goal

pub returns-in-Ok-write : goal.returns-in-Ok-write
returns-in-Ok-write g c =
    subst (λ (o : Option Out). Says {T = Unit {0}} (Ok c.in-Ok-write.field-0) o (g.K.Sink.held c.args.sink.now) (g.K.Sink.held c.write.new.sink) (g.K.Sink.faults c.args.sink.now) (g.K.Sink.faults c.write.new.sink))
    (sym c.in-Some.is)
    (said_whole c.in-Ok-write.field-0 c.in-Some.out (frame c.as_slice.result.now) _ _ _ _ (ap frame (c.as_slice.ensures.value ∙ c.in-Ok.ensures.body)) c.in-Ok-write.ensures.whole c.in-Ok-write.ensures.unfailed)

pub returns : goal.returns
returns g c =
    subst (λ (o : Option Out). Says {T = Unit {0}} (Err c.stop_by.result) o (g.K.Sink.held c.args.sink.now) (g.K.Sink.held c.write.new.sink) (g.K.Sink.faults c.args.sink.now) (g.K.Sink.faults c.write.new.sink))
    (sym c.in-Some.is)
    (subst (λ (e : ServeEnd). Says {T = Unit {0}} (Err e) (Some c.in-Some.out) (g.K.Sink.held c.args.sink.now) (g.K.Sink.held c.write.new.sink) (g.K.Sink.faults c.args.sink.now) (g.K.Sink.faults c.write.new.sink))
    (sym c.stop_by.ensures)
    (said_short (Unit {0}) c.in-Err.end c.in-Some.out (frame c.as_slice.result.now) _ _ _ _ (ap frame (c.as_slice.ensures.value ∙ c.in-Ok.ensures.body)) c.in-Err.ensures.short))
