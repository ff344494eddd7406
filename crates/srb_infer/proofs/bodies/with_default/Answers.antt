use Rattle.std.proofs.Common.{◌∙◌}
use Rattle.std.proofs.lemmas.Result.{on_ok_weaker}
use Rattle.srb_judgement.specs.Kept.{seen_context}
use Rattle.srb_judgement.specs.States.{judged}
use Rattle.srb_judgement.specs.Views.{seen_state, seen_environment}
use Rattle.srb_infer.proofs.Methods.{default_is}
use Rattle.srb_infer.proofs.bodies.with_default.Goals as goal

pub returns-in_ok-found-in-Some : goal.returns-in_ok-found-in-Some
returns-in_ok-found-in-Some g c = let the = g.L.Language.the c.args.language.now in
    on_ok_weaker c.leave_default.result
    (λ h. h ∙ default_is the c.args.method.now c.args.parameter.now.name c.args.ty.now c.args.parameter.now.default c.in-Some.value c.span.result
    (seen_environment c.in_ok-before-in-Some.before) (seen_context c.args.context.now) (seen_state c.args.state.now)
    (judged c.in_ok-found-in-Some.found (seen_state c.judge.new.state))
    c.in-Some.is c.span.ensures c.in_ok-before-in-Some.ensures c.in_ok-found-in-Some.ensures)
    c.leave_default.ensures
