use Rattle.std.proofs.Common.{ap, codes}
use Rattle.std.proofs.lemmas.Result.{IfOk-weaker}
use Rattle.rb_views.specs.Places.{prefix_operator}
use Rattle.srb_judgement.specs.Judgements.{part_of}
use Rattle.srb_judgement.specs.Kept.{seen_context}
use Rattle.srb_judgement.specs.Operators.{unary_judged}
use Rattle.srb_judgement.specs.States.{judged}
use Rattle.srb_judgement.specs.Views.{seen_state}
use Rattle.srb_walk.proofs.Operating.{called_before}
use Rattle.srb_walk.proofs.operators.unary.Goals as goal

pub returns-in-Minus : goal.returns-in-Minus
returns-in-Minus g c =
    let L = g.L.Language.the c.args.language.now in
    IfOk-weaker c.prefix_call.result _ _
    (λ ty h. called_before L (codes "-@") c.args.operand.now c.prefix_operator-place.result (prefix_operator c.args.span)
    (seen_context c.args.context.now) (seen_state c.args.state.now) (judged c.in_ok-ty.ty (seen_state c.judge.new.state))
    (judged ty (seen_state c.prefix_call.new.state))
    (unary_judged L c.args.operator (part_of L c.args.operand.now).it c.args.span (seen_context c.args.context.now) (seen_state c.args.state.now))
    c.prefix_operator-place.ensures c.in_ok-ty.ensures
    (ap (λ o. unary_judged L o (part_of L c.args.operand.now).it c.args.span (seen_context c.args.context.now) (seen_state c.args.state.now)) c.in-Minus.is) h)
    c.prefix_call.ensures

pub returns-in-Plus : goal.returns-in-Plus
returns-in-Plus g c =
    let L = g.L.Language.the c.args.language.now in
    IfOk-weaker c.prefix_call-in-Plus.result _ _
    (λ ty h. called_before L (codes "+@") c.args.operand.now c.prefix_operator-place.result (prefix_operator c.args.span)
    (seen_context c.args.context.now) (seen_state c.args.state.now) (judged c.in_ok-ty.ty (seen_state c.judge.new.state))
    (judged ty (seen_state c.prefix_call-in-Plus.new.state))
    (unary_judged L c.args.operator (part_of L c.args.operand.now).it c.args.span (seen_context c.args.context.now) (seen_state c.args.state.now))
    c.prefix_operator-place.ensures c.in_ok-ty.ensures
    (ap (λ o. unary_judged L o (part_of L c.args.operand.now).it c.args.span (seen_context c.args.context.now) (seen_state c.args.state.now)) c.in-Plus.is) h)
    c.prefix_call-in-Plus.ensures

pub returns-in-Tilde : goal.returns-in-Tilde
returns-in-Tilde g c =
    let L = g.L.Language.the c.args.language.now in
    IfOk-weaker c.prefix_call-in-Tilde.result _ _
    (λ ty h. called_before L (codes "~") c.args.operand.now c.prefix_operator-place.result (prefix_operator c.args.span)
    (seen_context c.args.context.now) (seen_state c.args.state.now) (judged c.in_ok-ty.ty (seen_state c.judge.new.state))
    (judged ty (seen_state c.prefix_call-in-Tilde.new.state))
    (unary_judged L c.args.operator (part_of L c.args.operand.now).it c.args.span (seen_context c.args.context.now) (seen_state c.args.state.now))
    c.prefix_operator-place.ensures c.in_ok-ty.ensures
    (ap (λ o. unary_judged L o (part_of L c.args.operand.now).it c.args.span (seen_context c.args.context.now) (seen_state c.args.state.now)) c.in-Tilde.is) h)
    c.prefix_call-in-Tilde.ensures
