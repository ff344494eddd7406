use Rattle.std.proofs.Common.{ap, ◌∙◌}
use Rattle.std.proofs.lemmas.Result.{IfOk-weaker}
use Rattle.srb_judgement.specs.Reaching.{excluding}
use Rattle.srb_judgement.specs.Views.{seen_state, settled}
use Rattle.srb_infer.proofs.conditions.test_excluding.Goals as goal

pub returns : goal.returns
returns g c =
    let the = g.L.Language.the c.args.language.now in
    IfOk-weaker c.without_dead.result _ _
    (λ t h. ap settled (h (seen_state c.test_inside.new.state)) ∙ (λ i. settled (excluding the (c.in_ok-tested.ensures i))))
    c.without_dead.ensures
