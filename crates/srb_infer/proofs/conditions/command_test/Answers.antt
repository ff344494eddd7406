use Rattle.std.proofs.Common.{◌∙◌}
use Rattle.std.proofs.lemmas.Result.{IfOk-weaker}
use Rattle.srb_judgement.specs.Narrowing.{saying}
use Rattle.srb_judgement.specs.Views.{settled}
use Rattle.srb_infer.proofs.conditions.command_test.Goals as goal

pub returns : goal.returns
returns g c =
    let the = g.L.Language.the c.args.language.now in
    IfOk-weaker c.said.result _ _
    (λ t h. h ∙ (λ i. settled (saying the (c.in_ok-says.ensures i) (c.in_ok-ty.ensures i))))
    c.said.ensures
