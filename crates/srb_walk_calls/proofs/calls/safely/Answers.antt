use Rattle.std.proofs.Common.{◌∙◌}
use Rattle.std.proofs.lemmas.Result.{IfOk-weaker}
use Rattle.srb_judgement.specs.Chains.{operands_of}
use Rattle.srb_judgement.specs.Kept.{seen_context}
use Rattle.srb_judgement.specs.States.{judged}
use Rattle.srb_judgement.specs.Views.{seen_environment, seen_state}
use Rattle.srb_walk.specs.Known.{known_arguments, known_blocks}
use Rattle.srb_walk_calls.proofs.Calling.{safely_is}
use Rattle.srb_walk_calls.proofs.calls.safely.Goals as goal

pub returns : goal.returns
returns g c = let the = g.L.Language.the c.args.language.now in
    IfOk-weaker c.or_nil.result _ _
    (λ ty h. safely_is the c.args.receiver.now c.in_ok-left.left c.args.name.now c.args.name_span (operands_of (known_arguments the c.args.row.now)) (known_blocks the c.args.own.now)
    (seen_context c.args.context.now) (seen_state c.args.state.now) (seen_environment c.in_ok-before.before) (judged c.in_ok-ty.ty (seen_state c.safe_call.new.state))
    (judged c.in_ok-ty.ty (seen_state c.join_before.new.state)) (judged ty (seen_state c.join_before.new.state))
    c.in_ok-before.ensures c.in_ok-left.ensures c.in_ok-ty.ensures c.in_ok-join_before.ensures h)
    c.or_nil.ensures
