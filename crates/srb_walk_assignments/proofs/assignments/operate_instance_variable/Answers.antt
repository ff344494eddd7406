use Rattle.srb_judgement.specs.Judgements.{part_of}
use Rattle.srb_judgement.specs.Kept.{seen_context}
use Rattle.srb_judgement.specs.States.{judged}
use Rattle.srb_judgement.specs.Views.{seen_state}
use Rattle.srb_walk_assignments.proofs.Assigning.{instance_variable_operated}
use Rattle.srb_walk_assignments.proofs.assignments.operate_instance_variable.Goals as goal

pub returns : goal.returns
returns g c =
    instance_variable_operated (g.L.Language.the c.args.language.now) (part_of (g.L.Language.the c.args.language.now) c.args.value.now).it
    c.args.name.now c.args.name_span c.args.operator c.args.place c.args.whole (seen_context c.args.context.now) (seen_state c.args.state.now)
    (judged c.in_ok-read.read (seen_state c.instance_variable.new.state)) (judged c.in_ok-ty.ty (seen_state c.operated.new.state))
    (judged c.in_ok-ty.ty (seen_state c.to_instance_variable.new.state))
    c.in_ok-read.ensures c.in_ok-ty.ensures c.in_ok-to_instance_variable.ensures
