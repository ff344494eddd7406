use Rattle.std.proofs.Common.{◌≡◌, ◌++◌, true, map, ap, ◌∙◌}
use Rattle.std.proofs.lemmas.Result.{IfOk-weaker}
use Rattle.srb_judgement.specs.Blocks.{left_with, placed_name, state_with}
use Rattle.srb_judgement.specs.Kept.{seen_context}
use Rattle.srb_judgement.specs.Pins.{in_block}
use Rattle.srb_judgement.specs.Views.{seen_block_judged, seen_state}
use Rattle.srb_walk.specs.Assigned.{names_of}
use Rattle.srb_walk.specs.Judging.{judge_of}
use Rattle.srb_walk_calls.proofs.Calling.{block_is}
use Rattle.srb_walk_calls.proofs.calls.block.Goals as goal

pub returns : goal.returns
returns g c =
    let the = g.L.Language.the c.args.language.now in
    let context = seen_context c.args.context.now in
    let inner = seen_context c.in_ok-inner.inner in
    let before = seen_state c.args.state.now in
    IfOk-weaker c.block_inside.result _ _
    (λ b h. block_is the c.args.block.now c.args.types.now context inner before c.in_ok-parameters.parameters c.assigned.new.found
    (seen_block_judged b (seen_state c.block_inside.new.state))
    (c.in_ok-parameters.ensures ∙ ap (map placed_name) c.as_slice.ensures)
    (c.in_ok-assigned.ensures ∙ ap (λ names. names ++ names_of the true c.args.block.now.body) c.new-assigns.ensures)
    (c.in_ok-inner.ensures ∙ ap (λ names. in_block the before.environment names context) c.as_slice-2.ensures)
    (h
    ∙ (λ i. left_with the (c.as_slice-3.ensures i) context before
    (judge_of the c.args.block.now.body inner (state_with the (c.as_slice-3.ensures i) (c.as_slice-4.ensures i) c.args.types.now context before)))))
    c.block_inside.ensures
