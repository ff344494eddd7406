use Rattle.std.proofs.Common.{◌∙◌}
use Rattle.std.proofs.lemmas.Result.{IfOk-weaker}
use Rattle.srb_judgement.specs.Reaching.{both_sides}
use Rattle.srb_judgement.specs.Views.{settled}
use Rattle.srb_infer.proofs.conditions.prefix_test.Goals as goal

pub returns : goal.returns
returns g c =
    IfOk-weaker c.both_sides.result _ _
    (λ t h. h ∙ (λ i. settled (both_sides (c.in_ok-ty.ensures i))))
    c.both_sides.ensures
