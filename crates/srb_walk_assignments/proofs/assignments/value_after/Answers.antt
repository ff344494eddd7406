use Rattle.srb_judgement.specs.Kept.{seen_context}
use Rattle.srb_judgement.specs.States.{judged}
use Rattle.srb_judgement.specs.Views.{seen_arguments, seen_state}
use Rattle.srb_walk_assignments.proofs.Assigning.{value_written}
use Rattle.srb_walk_assignments.proofs.assignments.value_after.Goals as goal

pub returns : goal.returns
returns g c =
    value_written (g.L.Language.the c.args.language.now) c.args.value.now c.args.receiver.now c.args.name.now c.args.name_span c.span-place.result
    (seen_context c.args.context.now) (seen_arguments c.args.given (seen_state c.args.state.now)) (seen_state c.judge.new.state)
    (judged c.in_ok-ty.ty (seen_state c.judge.new.state)) (judged c.in_ok-ty.ty (seen_state c.write.new.state))
    c.span-place.ensures c.in_ok-ty.ensures c.in_ok-write.ensures
