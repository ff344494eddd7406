use Rattle.std.proofs.Common.{◌∙◌}
use Rattle.std.proofs.lemmas.Result.{IfOk-weaker}
use Rattle.srb_judgement.specs.Operators.{and_next}
use Rattle.srb_judgement.specs.Views.{settled}
use Rattle.srb_walk.specs.Judging.{test_of}
use Rattle.srb_infer.proofs.conditions.and_judged.Goals as goal

pub returns : goal.returns
returns g c =
    let the = g.L.Language.the c.args.language.now in
    IfOk-weaker c.and_test.result _ _
    (λ t h. h ∙ (λ i. settled (and_next the (test_of the c.args.right.now) ((c.of.ensures ∙ c.in_ok-inner.ensures) i) (c.in_ok-tested.ensures i))))
    c.and_test.ensures
