use Rattle.std.proofs.Common.{ℕ, List, ◌≡◌, ◌<◌, length, sym, ap, ◌∙◌, arith}
use Rattle.lsp_frame.specs.Bodies.{place_after}
use Rattle.lsp_frame.specs.declared.reading.FrameEnd.TheVariants.{Broken}
use Rattle.lsp_frame.specs.First.{first_of}
use Rattle.lsp_frame.specs.declared.first.First.TheVariants.{More, Refused, Oversized, Frame}
use Rattle.lsp_frame.proofs.NextLemmas.{broken_next, long_next, taken_next, closed_next, failed_next}
use Rattle.lsp_frame.proofs.reading.Frames.read_on.Goals as goal

pub returns-in-Refused : goal.returns-in-Refused
returns-in-Refused g c =
    let first : first_of c.loop-at.self.pending ≡ Refused c.in-Refused.at = ap first_of (sym c.pending.ensures.pending) ∙ sym c.in-Refused.ensures in
    (c.loop-at.self.pending, c.loop-at.invariant.reads, broken_next _ _ _ _ _ _ _ _ _ _ first c.broken-end.ensures c.loop-at.invariant.same_place c.refuse.ensures.answer c.refuse.ensures.after c.loop-at.invariant.unfailed)

pub returns-in-Oversized : goal.returns-in-Oversized
returns-in-Oversized g c =
    let first : first_of c.loop-at.self.pending ≡ Oversized c.in-Oversized.length = ap first_of (sym c.pending.ensures.pending) ∙ sym c.in-Oversized.ensures in
    (c.loop-at.self.pending, c.loop-at.invariant.reads, long_next _ _ _ _ _ _ _ _ _ first c.loop-at.invariant.same_place c.refuse-in-Oversized.ensures.answer c.refuse-in-Oversized.ensures.after c.loop-at.invariant.unfailed)

pub returns-in-Frame : goal.returns-in-Frame
returns-in-Frame g c =
    let first : first_of c.loop-at.self.pending ≡ Frame c.in-Frame.from c.in-Frame.to = ap first_of (sym c.pending.ensures.pending) ∙ sym c.in-Frame.ensures in
    (c.loop-at.self.pending, c.loop-at.invariant.reads, taken_next _ _ _ c.loop-at.self _ _ _ _ _ first c.loop-at.invariant.same_place c.loop-at.invariant.going c.take.ensures c.loop-at.invariant.unfailed)

pub returns-in-Ok-eq0 : goal.returns-in-Ok-eq0
returns-in-Ok-eq0 g c =
    let first : first_of c.loop-at.self.pending ≡ More = ap first_of (sym c.pending.ensures.pending) ∙ sym c.in-More.ensures in
    let some : 0 < length c.fill.new.self.pending = omega (arith, ap length c.pending-size.ensures.pending) in
    let ended = c.broken-end-in-Ok-eq0.ensures ∙ ap (λ (l : List ℕ). Broken (place_after c.fill.new.self.at (length l))) c.pending-size.ensures.pending in
    closed_next _ _ c.loop-at.self c.fill.new.self _ _ _ _ _ _ _ _ _ _ c.loop-at.invariant.reads first c.loop-at.invariant.same_place c.loop-at.invariant.unfailed c.in-Ok-eq0.ensures c.in-Ok-eq0.field-0-test some ended c.refuse-in-Ok-eq0.ensures.answer c.refuse-in-Ok-eq0.ensures.after

pub returns-in-Err : goal.returns-in-Err
returns-in-Err g c =
    let first : first_of c.loop-at.self.pending ≡ More = ap first_of (sym c.pending.ensures.pending) ∙ sym c.in-More.ensures in
    failed_next _ _ c.loop-at.self c.fill.new.self _ _ _ _ _ _ _ _ _ c.loop-at.invariant.reads first c.loop-at.invariant.same_place c.loop-at.invariant.unfailed c.in-Err.ensures c.refuse-in-Err.ensures.answer c.refuse-in-Err.ensures.after
