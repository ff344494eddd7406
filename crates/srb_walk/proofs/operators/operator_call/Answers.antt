use Rattle.std.proofs.Common.{◌∙◌}
use Rattle.std.proofs.lemmas.Result.{IfOk-weaker}
use Rattle.srb_judgement.specs.Kept.{seen_context}
use Rattle.srb_judgement.specs.Operators.{method_name}
use Rattle.srb_judgement.specs.States.{judged}
use Rattle.srb_judgement.specs.Views.{seen_state}
use Rattle.srb_walk.proofs.Operating.{called_with}
use Rattle.srb_walk.proofs.operators.operator_call.Goals as goal

pub returns : goal.returns
returns g c =
    IfOk-weaker c.call_alone.result _ _
    (λ ty h. called_with (g.L.Language.the c.args.language.now) c.args.receiver.now (method_name c.args.operator) c.in_ok-name.name c.args.place
    c.args.right.now (seen_context c.args.context.now) (seen_state c.args.state.now) (seen_state c.judge.new.state) c.in_ok-ty.ty c.span.result
    c.new.result (record { positional = c.push.new.self; keys = c.new-2.result }) (judged ty (seen_state c.call_alone.new.state))
    c.in_ok-ty.ensures c.span.ensures c.new.ensures c.in_ok-push.ensures.ok c.new-2.ensures (c.in_ok-name.ensures ∙ c.method_name.ensures) h)
    c.call_alone.ensures
