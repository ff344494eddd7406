use Rattle.srb_judgement.specs.Judgements.{part_of}
use Rattle.srb_judgement.specs.Kept.{seen_context}
use Rattle.srb_judgement.specs.States.{judged}
use Rattle.srb_judgement.specs.Views.{seen_arguments, seen_state}
use Rattle.srb_walk_assignments.proofs.Assigning.{call_operated}
use Rattle.srb_walk_assignments.proofs.assignments.operate_call.Goals as goal

pub returns : goal.returns
returns g c =
    call_operated (g.L.Language.the c.args.language.now) (part_of (g.L.Language.the c.args.language.now) c.args.value.now).it
    c.args.receiver.now c.args.reader.now c.args.name.now c.args.name_span (seen_arguments c.args.given (seen_state c.args.state.now))
    c.args.operator c.args.place c.args.whole (seen_context c.args.context.now) (seen_state c.operated.new.state)
    (judged c.in_ok-read.read (seen_state c.alone.new.state)) (judged c.in_ok-ty.ty (seen_state c.operated.new.state))
    (judged c.in_ok-ty.ty (seen_state c.write.new.state))
    c.in_ok-read.ensures c.in_ok-ty.ensures c.in_ok-write.ensures
