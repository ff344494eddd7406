use Rattle.std.proofs.Common.{◌∙◌, ap, subst, sym}
use Rattle.run_watch.specs.Told.{with_steps}
use Rattle.srb_cli.specs.Generating.{IsGenerated}
use Rattle.srb_cli.proofs.GeneratedSteps.{one_more, writes_summary, writes_summary_part}
use Rattle.srb_cli.proofs.generating.generate.Goals as goal

pub summary_of-requires-clause-steps : goal.summary_of-requires-clause-steps
summary_of-requires-clause-steps g c = subst (IsGenerated c.args.count) (sym c.as_slice.ensures) c.in-Ok.ensures

pub returns-in-Ok-write_all : goal.returns-in-Ok-write_all
returns-in-Ok-write_all g c =
    λ left reads. (
      writes_summary (g.K.Sink.held c.args.sink.now) (g.K.Sink.held c.write_all.new.sink) c.args.count c.as_slice-3.result.now c.in-Ok-summary_of.summary.items
          c.as_slice-3.ensures.value c.in-Ok-summary_of.ensures c.in-Ok-write_all.ensures.whole,
      (c.in-Ok.steps, c.in-Ok.ensures, c.in-Ok-tell_all.ensures ∙ ap (with_steps (g.T.Trace.told c.args.trace.now)) c.as_slice-2.ensures),
      c.in-Ok-write_all.ensures.cause,
    )

pub returns : goal.returns
returns g c =
    λ left reads. (
      writes_summary_part (g.K.Sink.held c.args.sink.now) (g.K.Sink.held c.write_all.new.sink) c.args.count c.as_slice-3.result.now c.in-Ok-summary_of.summary.items
          c.as_slice-3.ensures.value c.in-Ok-summary_of.ensures c.in-Err.ensures.part,
      (c.in-Ok.steps, c.in-Ok.ensures, c.in-Ok-tell_all.ensures ∙ ap (with_steps (g.T.Trace.told c.args.trace.now)) c.as_slice-2.ensures),
      one_more (g.K.Sink.faults c.args.sink.now) (g.K.Sink.faults c.write_all.new.sink) c.in-Err.ensures.cause,
    )
