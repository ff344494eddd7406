use Rattle.std.proofs.lemmas.Result.{IfOk-weaker}
use Rattle.srb_judgement.specs.Kept.{seen_context}
use Rattle.srb_judgement.specs.States.{judged}
use Rattle.srb_judgement.specs.Views.{seen_aside, seen_block_judged, seen_state}
use Rattle.srb_walk_calls.proofs.Calling.{inside_is}
use Rattle.srb_walk_calls.proofs.calls.block_inside.Goals as goal

pub returns : goal.returns
returns g c =
    IfOk-weaker c.end_block.result _ _
    (λ b h. inside_is (g.L.Language.the c.args.language.now) c.args.parameters.now c.args.assigns.now c.args.types.now c.args.body.now (seen_context c.args.context.now)
    (seen_context c.args.inner.now) (seen_state c.args.state.now) (seen_state c.begin_block.new.state) (seen_aside c.in_ok-aside.aside)
    (judged c.in_ok-ty.ty (seen_state c.judge.new.state)) (seen_block_judged b (seen_state c.end_block.new.state))
    c.in_ok-aside.ensures.aside c.in_ok-aside.ensures.state c.in_ok-ty.ensures h)
    c.end_block.ensures
