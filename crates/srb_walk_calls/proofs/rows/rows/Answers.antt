use Rattle.std.proofs.Common.{◌≡◌, ◌++◌, false, ap, ◌∙◌, sym}
use Rattle.std.proofs.lemmas.Result.{IfOk-weaker}
use Rattle.srb_judgement.specs.Judgements.{part_of}
use Rattle.srb_judgement.specs.Kept.{seen_context}
use Rattle.srb_judgement.specs.Views.{seen_spelling, seen_state}
use Rattle.srb_walk_calls.proofs.Chained.{row_told}
use Rattle.srb_walk.proofs.Writing.{span_told}
use Rattle.srb_walk.specs.Assigned.{names_of}
use Rattle.srb_walk_calls.specs.Fronts.{told}
use Rattle.srb_walk_calls.proofs.rows.rows.Goals as goal

pub returns : goal.returns
returns g c = let the = g.L.Language.the c.args.language.now in
    let o = (part_of the c.args.receiver.now).it in
    IfOk-weaker c.told.result _ _
    (λ ty h live. h
    ∙ (λ i. told the (c.in_ok-spelled.ensures i) ((c.span-place.ensures ∙ sym (span_told the c.args.receiver.now)) i) ((c.in_ok-assigned.ensures ∙ ap (λ d. d ++ names_of the false c.args.receiver.now) c.new-declares.ensures) i) o c.args.row.now (seen_context c.args.context.now) (seen_state c.args.state.now))
    ∙ sym (row_told the o c.args.row.now (seen_context c.args.context.now) (seen_state c.args.state.now) live))
    c.told.ensures
