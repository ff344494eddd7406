use Rattle.std.proofs.Common.{None, ap, ◌∙◌}
use Rattle.std.proofs.lemmas.Result.{IfOk-weaker}
use Rattle.srb_judgement.specs.Calls.{call_untyped}
use Rattle.srb_judgement.specs.Chains.{operands_of}
use Rattle.srb_judgement.specs.Kept.{seen_context}
use Rattle.srb_judgement.specs.Views.{seen_state}
use Rattle.srb_infer.proofs.Bracketed.{brackets_are}
use Rattle.srb_walk.specs.Known.{known_arguments}
use Rattle.srb_infer.proofs.walk.bracketed_untyped.Goals as goal

pub returns : goal.returns
returns g c = let the = g.L.Language.the c.args.language.now in
    IfOk-weaker c.untyped_call.result _ _
    (λ ty h. h ∙ ap (λ row. call_untyped the (operands_of row) None (seen_context c.args.context.now) (seen_state c.args.state.now))
    (ap (known_arguments the) c.in_brackets.ensures ∙ brackets_are the c.args.brackets.now))
    c.untyped_call.ensures
