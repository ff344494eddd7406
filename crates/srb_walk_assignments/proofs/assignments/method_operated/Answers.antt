use Rattle.std.proofs.lemmas.Result.{IfOk-weaker}
use Rattle.srb_judgement.specs.Judgements.{part_of}
use Rattle.srb_judgement.specs.Kept.{seen_context}
use Rattle.srb_judgement.specs.Operators.{method_name}
use Rattle.srb_judgement.specs.States.{judged}
use Rattle.srb_judgement.specs.Views.{seen_state}
use Rattle.srb_walk_assignments.proofs.Assigning.{method_read}
use Rattle.srb_walk_assignments.proofs.assignments.method_operated.Goals as goal

pub returns : goal.returns
returns g c =
    let the = g.L.Language.the c.args.language.now in
    IfOk-weaker c.operator_call.result _ _
    (λ ty h. method_read the (part_of the c.args.value.now).it (method_name c.args.operator) c.args.place (seen_context c.args.context.now)
    c.args.read.now (seen_state c.args.state.now) (judged c.args.read.now (seen_state c.close.new.state))
    (judged ty (seen_state c.operator_call.new.state)) c.close.ensures h)
    c.operator_call.ensures
