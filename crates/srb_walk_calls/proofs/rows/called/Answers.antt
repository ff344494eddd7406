use Rattle.std.proofs.Common.{◌∙◌, ap}
use Rattle.srb_judgement.specs.Chains.{operands_of}
use Rattle.srb_judgement.specs.Kept.{seen_context}
use Rattle.srb_judgement.specs.States.{judged, seeing}
use Rattle.srb_judgement.specs.Views.{seen_state}
use Rattle.srb_walk.specs.Known.{known_arguments, known_blocks}
use Rattle.srb_walk_calls.specs.Fronts.{seen_row}
use Rattle.srb_walk_calls.proofs.Calling.{called_is}
use Rattle.srb_walk_calls.proofs.rows.called.Goals as goal

pub returns : goal.returns
returns g c = let the = g.L.Language.the c.args.language.now in
    called_is the (seen_context c.args.context.now) c.args.dot c.args.name.now c.args.name_span (operands_of (known_arguments the c.args.row.now)) (known_blocks the c.args.own.now)
    (seen_row c.args.so_far (seen_state c.args.state.now)) (seen_context c.of.result.now) (judged c.in_ok-result.result (seen_state c.after_receiver.new.state))
    (judged c.in_ok-result.result (seen_state c.close.new.state)) c.declare_arguments.new.names
    (c.of.ensures ∙ c.in_ok-inner.ensures ∙ ap (λ names. seeing names (seen_context c.args.context.now)) c.as_slice.ensures) c.in_ok-result.ensures c.close.ensures c.in_ok-declare_arguments.ensures
