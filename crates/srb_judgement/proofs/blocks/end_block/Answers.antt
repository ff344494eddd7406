use Rattle.std.proofs.Common.{List, ap, ◌∙◌}
use Rattle.std.proofs.lemmas.Result.{IfOk-weaker}
use Rattle.srb_terms.specs.declared.ty.Ty.{Ty}
use Rattle.srb_judgement.specs.Environments.{Row}
use Rattle.srb_judgement.specs.States.{judged}
use Rattle.srb_judgement.specs.Steps.{left_kept}
use Rattle.srb_judgement.specs.Views.{seen_aside, seen_state}
use Rattle.srb_judgement.proofs.Steps.{outer_kept, with_assigned}
use Rattle.srb_judgement.proofs.blocks.end_block.Goals as goal

pub returns : goal.returns
returns g c =
    let L = g.L.Language.the c.args.language.now in
    let s = seen_state c.args.state.now in
    let before = seen_aside c.args.aside in
    let parameters = c.args.parameters.now in
    IfOk-weaker c.end_with.result _ _
    (λ b h. h
    ∙ ap (λ (rows : List (Row Ty)). with_assigned (left_kept L c.args.context.now parameters before (judged c.args.ty s)) rows)
    (outer_kept c.args.context.now parameters before.assigned s.assigned))
    c.end_with.ensures
