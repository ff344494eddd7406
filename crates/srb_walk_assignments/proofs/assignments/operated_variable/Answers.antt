use Rattle.std.proofs.lemmas.Result.{IfOk-weaker}
use Rattle.srb_judgement.specs.Judgements.{part_of}
use Rattle.srb_judgement.specs.Kept.{seen_context}
use Rattle.srb_judgement.specs.States.{judged}
use Rattle.srb_judgement.specs.Views.{seen_state}
use Rattle.srb_walk_assignments.proofs.Assigning.{variable_operated}
use Rattle.srb_walk_assignments.proofs.assignments.operated_variable.Goals as goal

pub returns : goal.returns
returns g c =
    IfOk-weaker c.operated.result _ _
    (λ ty h. variable_operated (g.L.Language.the c.args.language.now) (part_of (g.L.Language.the c.args.language.now) c.args.value.now).it
    c.args.name.now c.in_ok-copied.field-0 c.args.operator c.args.place (seen_context c.args.context.now) (seen_state c.args.state.now)
    c.in_ok-read.read (judged ty (seen_state c.operated.new.state)) c.in_ok-read.ensures c.in_ok-copied.ensures h)
    c.operated.ensures
