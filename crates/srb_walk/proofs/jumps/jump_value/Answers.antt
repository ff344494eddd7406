use Rattle.std.proofs.lemmas.Result.{IfOk-weaker}
use Rattle.srb_judgement.specs.Kept.{seen_context}
use Rattle.srb_judgement.specs.States.{judged}
use Rattle.srb_judgement.specs.Views.{seen_state}
use Rattle.srb_walk.proofs.Operating.{jumped_with}
use Rattle.srb_walk.proofs.jumps.jump_value.Goals as goal

pub returns-in_ok-ty-in-Some : goal.returns-in_ok-ty-in-Some
returns-in_ok-ty-in-Some g c =
    IfOk-weaker c.jump-in-Some.result _ _
    (λ ty h. jumped_with (g.L.Language.the c.args.language.now) c.args.word c.args.value.now c.in-Some.value c.span.result c.args.span
    (seen_context c.args.context.now) (seen_state c.args.state.now) (judged c.in_ok-ty-in-Some.ty (seen_state c.judge.new.state))
    (judged ty (seen_state c.jump-in-Some.new.state)) c.in-Some.is c.span.ensures c.in_ok-ty-in-Some.ensures h)
    c.jump-in-Some.ensures
