use Rattle.std.proofs.Common.{ap, ◌∙◌}
use Rattle.std.proofs.lemmas.Result.{IfOk-weaker}
use Rattle.srb_judgement.specs.Expressions.{own_call}
use Rattle.srb_judgement.specs.Chains.{operands_of}
use Rattle.srb_judgement.specs.Kept.{seen_context}
use Rattle.srb_judgement.specs.Views.{seen_state}
use Rattle.srb_infer.proofs.Bracketed.{brackets_are}
use Rattle.srb_walk.specs.Known.{known_arguments, known_blocks}
use Rattle.srb_infer.proofs.walk.bracketed_call.Goals as goal

pub returns : goal.returns
returns g c = let the = g.L.Language.the c.args.language.now in
    IfOk-weaker c.own_call.result _ _
    (λ ty h. h ∙ ap (λ row. own_call the c.args.name.now c.args.place (operands_of row) (known_blocks the c.args.own.now) (seen_context c.args.context.now) (seen_state c.args.state.now))
    (ap (known_arguments the) c.in_brackets.ensures ∙ brackets_are the c.args.brackets.now))
    c.own_call.ensures
