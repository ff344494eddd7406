use Rattle.std.proofs.Common.{map, ◌∙◌}
use Rattle.std.proofs.lemmas.Result.{IfOk-weaker}
use Rattle.srb_judgement.specs.Guards.{ensured_whole}
use Rattle.srb_judgement.specs.Views.{seen_environment, seen_left, seen_state}
use Rattle.srb_walk_control.proofs.guards.leave_ensure.Goals as goal

pub returns : goal.returns
returns g c =
    let the = g.L.Language.the c.args.language.now in
    let before = seen_state c.args.state.now in
    IfOk-weaker c.end_ensure.result _ _
    (λ ty h. h ∙ (λ i. ensured_whole the before.environment ((c.as_slice.ensures ∙ c.in_ok-names.ensures) i)
    (c.replace-all.ensures.value i).ty (seen_environment (c.replace-all.ensures.value i).environment)
    (map seen_left (c.replace-before.ensures.value i).breaks) (map seen_left (c.replace-before.ensures.value i).nexts) before))
    c.end_ensure.ensures
