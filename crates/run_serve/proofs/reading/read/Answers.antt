use Rattle.std.proofs.Common.{refl, sym, ap, ◌∙◌}
use Rattle.lsp_frame.specs.Stream.{Stream}
use Rattle.run_queues.specs.Hearings.{Sending}
use Rattle.run_serve.proofs.Sending.{reads_on, refused, sent_last, starts, stops}
use Rattle.run_serve.proofs.reading.read.Goals as goal

pub inputs-init : goal.inputs-init
inputs-init g c = record {
  reading = starts _ _ _ _ (ap (λ (s : Stream). s.pending) c.new-frames.ensures) (ap (λ (s : Stream). s.at) c.new-frames.ensures)
      (ap (λ (s : Stream). s.ended) c.new-frames.ensures) c.requires.unsent;
  inbox = refl;
  seat = (refl, refl, refl);
}

pub returns-then-look-clause-sent : goal.returns-then-look-clause-sent
returns-then-look-clause-sent g c = stops _ _ _ _ c.inputs.frames c.inputs.exited c.inputs.pass.sent c.inputs.invariant.reading

pub returns-in-Err-clause-sent : goal.returns-in-Err-clause-sent
returns-in-Err-clause-sent g c =
    let r = c.inputs.invariant.reading in
    let given = c.next_given-inp.ensures (g.S.Source.left c.args.source.now) (g.S.Source.faults c.args.source.now) r.messages r.heard in
    refused _ _ _ _ c.next_given-inp.new.frames r.messages c.next_given-inp.result c.put.new.p.sent given (ap (λ (p : Sending). p.sent) c.in-Err.ensures.same ∙ r.put)

pub returns-then-last-clause-sent : goal.returns-then-last-clause-sent
returns-then-last-clause-sent g c =
    let r = c.inputs.invariant.reading in
    let given = c.next_given-inp.ensures (g.S.Source.left c.args.source.now) (g.S.Source.faults c.args.source.now) r.messages r.heard in
    sent_last _ _ _ _ c.next_given-inp.new.frames r.messages c.next_given-inp.result c.inputs.pass.sent c.put.new.p.sent given
    (sym c.is_end-last.ensures ∙ c.if-last.true) r.put (ap (λ (p : Sending). p.sent) c.in-Ok.ensures.sent)

pub inputs-preserved : goal.inputs-preserved
inputs-preserved g c =
    let i = c.inputs.invariant in
    let r = i.reading in
    let given = c.next_given-inp.ensures (g.S.Source.left c.args.source.now) (g.S.Source.faults c.args.source.now) r.messages r.heard in
    record {
      reading = reads_on _ _ _ _ c.next_given-inp.new.frames r.messages c.next_given-inp.result c.inputs.pass.sent c.put.new.p.sent c.ends_messages-exited.result given
          (sym c.is_end-last.ensures ∙ c.if-last.false) r.put (ap (λ (p : Sending). p.sent) c.in-Ok.ensures.sent) c.ends_messages-exited.ensures;
      inbox = ap (λ (p : Sending). p.queue) c.in-Ok.ensures.sent ∙ i.inbox;
      seat = (c.look.ensures.same.0 ∙ i.seat.0, c.look.ensures.same.1 ∙ i.seat.1, c.look.ensures.same.3 ∙ i.seat.2);
    }
