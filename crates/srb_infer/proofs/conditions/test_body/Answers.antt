use Rattle.std.proofs.Common.{ap, ◌∙◌}
use Rattle.std.proofs.lemmas.Result.{IfOk-weaker}
use Rattle.srb_judgement.specs.Kept.{seen_context}
use Rattle.srb_judgement.specs.Views.{seen_state, settled}
use Rattle.srb_infer.proofs.Several.{several_tested}
use Rattle.srb_infer.proofs.conditions.test_body.Goals as goal

pub returns-in_default : goal.returns-in_default
returns-in_default g c = let the = g.L.Language.the c.args.language.now in
    IfOk-weaker c.plain_body-in_default.result _ _
    (λ t h. h ∙ ap settled (several_tested the c.args.statements.now (seen_context c.args.context.now) (seen_state c.args.state.now) c.in_default.len_at_least))
    c.plain_body-in_default.ensures
