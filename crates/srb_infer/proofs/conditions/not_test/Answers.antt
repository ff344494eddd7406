use Rattle.std.proofs.Common.{ap, ◌∙◌}
use Rattle.std.proofs.lemmas.Result.{IfOk-weaker}
use Rattle.srb_judgement.specs.Operators.{exchanged}
use Rattle.srb_judgement.specs.Views.{seen_state, settled}
use Rattle.srb_infer.proofs.conditions.not_test.Goals as goal

pub returns : goal.returns
returns g c =
    let the = g.L.Language.the c.args.language.now in
    IfOk-weaker c.exchanged.result _ _
    (λ t h. ap settled (h (seen_state c.test.new.state)) ∙ (λ i. settled (exchanged the (c.in_ok-tested.ensures i))))
    c.exchanged.ensures
