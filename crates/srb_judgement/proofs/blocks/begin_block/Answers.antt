use Rattle.std.proofs.Common.{[], ap, ◌∙◌}
use Rattle.std.proofs.lemmas.Result.{on_ok_weaker}
use Rattle.srb_judgement.specs.Blocks.{new_type, with_parameters}
use Rattle.srb_judgement.specs.Steps.{with_unseen}
use Rattle.srb_judgement.specs.Views.{seen_state}
use Rattle.srb_judgement.proofs.Steps.{parameters_are, unseen_new}
use Rattle.srb_judgement.proofs.blocks.begin_block.Goals as goal

pub returns-clause-state : goal.returns-clause-state
returns-clause-state g c =
    let L = g.L.Language.the c.args.language.now in
    let s = seen_state c.args.state.now in
    let x = c.args.context.now in
    let parameters = c.args.parameters.now in
    let types = c.args.types.now in
    on_ok_weaker c.begin_with.result
    (λ h. h
    ∙ ap (λ e. record s { environment = e; breaks = []; nexts = []; assigned = [] })
    (parameters_are L parameters types (with_unseen x (new_type L x.looping) c.args.assigns.now s.environment)
    ∙ ap (λ e. with_parameters L parameters types e) (unseen_new L x (new_type L x.looping) c.args.assigns.now s.environment)))
    c.begin_with.ensures.state
