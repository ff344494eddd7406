use Rattle.srb_judgement.specs.Kept.{seen_context}
use Rattle.srb_judgement.specs.States.{judged}
use Rattle.srb_judgement.specs.Views.{seen_state}
use Rattle.srb_walk_assignments.proofs.Assigning.{variable_assigned}
use Rattle.srb_walk_assignments.proofs.assignments.assign_variable.Goals as goal

pub returns : goal.returns
returns g c =
    variable_assigned (g.L.Language.the c.args.language.now) c.args.value.now c.args.name.now c.span.result
    (seen_context c.args.context.now) (seen_state c.args.state.now)
    (judged c.in_ok-ty.ty (seen_state c.judge_seeing.new.state)) (judged c.in_ok-ty.ty (seen_state c.to_variable.new.state))
    c.span.ensures c.in_ok-ty.ensures c.in_ok-to_variable.ensures
