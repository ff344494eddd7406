use Rattle.std.proofs.Common.{ap, ◌∙◌}
use Rattle.std.proofs.lemmas.Result.{IfOk-weaker}
use Rattle.srb_judgement.specs.Operators.{and_sides}
use Rattle.srb_judgement.specs.Views.{seen_environment, seen_state, settled}
use Rattle.srb_infer.proofs.conditions.and_test.Goals as goal

pub returns : goal.returns
returns g c =
    let the = g.L.Language.the c.args.language.now in
    IfOk-weaker c.and_sides.result _ _
    (λ t h. ap settled (h (seen_state c.test.new.state)) ∙ (λ i. settled (and_sides the c.args.left.ty (seen_environment c.args.left.falsehood) (c.in_ok-other.ensures i))))
    c.and_sides.ensures
