use Rattle.std.proofs.Common.{◌∙◌}
use Rattle.std.proofs.lemmas.Result.{IfOk-weaker}
use Rattle.srb_judgement.specs.Kept.{seen_context}
use Rattle.srb_judgement.specs.States.{judged}
use Rattle.srb_judgement.specs.Views.{seen_state, seen_tested}
use Rattle.srb_walk.proofs.Operating.{and_then}
use Rattle.srb_walk.proofs.operators.and.Goals as goal

pub returns : goal.returns
returns g c =
    IfOk-weaker c.and_right.result _ _
    (λ ty h. and_then (g.L.Language.the c.args.language.now) c.args.left.now c.args.right.now (seen_context c.args.context.now)
    (seen_context c.of.result.now) (seen_state c.args.state.now) (seen_tested c.in_ok-tested.tested (seen_state c.test.new.state))
    (judged ty (seen_state c.and_right.new.state)) c.in_ok-tested.ensures (c.of.ensures ∙ c.in_ok-inner.ensures) h)
    c.and_right.ensures
