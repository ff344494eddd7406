use Rattle.std.proofs.Common.{◌∙◌}
use Rattle.std.proofs.lemmas.Result.{IfOk-weaker}
use Rattle.srb_judgement.specs.Kept.{seen_context}
use Rattle.srb_judgement.specs.Operators.{method_name}
use Rattle.srb_judgement.specs.States.{judged}
use Rattle.srb_judgement.specs.Views.{seen_state}
use Rattle.srb_walk.proofs.Operating.{called_after}
use Rattle.srb_walk.proofs.operators.called.Goals as goal

pub returns : goal.returns
returns g c =
    IfOk-weaker c.operator_call.result _ _
    (λ ty h. called_after (g.L.Language.the c.args.language.now) (method_name c.args.operator) c.args.place c.args.left.now c.args.right.now
    (seen_context c.args.context.now) (seen_context c.of.result.now) (seen_state c.args.state.now)
    (judged c.in_ok-ty.ty (seen_state c.judge.new.state)) (judged ty (seen_state c.operator_call.new.state))
    c.in_ok-ty.ensures (c.of.ensures ∙ c.in_ok-inner.ensures) h)
    c.operator_call.ensures
