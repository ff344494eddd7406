use Rattle.std.proofs.Common.{◌≡◌, ◌∙◌, IfOk, subst}
use Rattle.srb_judgement.specs.Chains.{operands_of}
use Rattle.srb_judgement.specs.Judgements.{part_of}
use Rattle.srb_judgement.specs.Kept.{seen_context}
use Rattle.srb_judgement.specs.States.{judged}
use Rattle.srb_judgement.specs.Views.{seen_arguments, seen_state}
use Rattle.srb_walk.specs.Known.{known_arguments}
use Rattle.srb_walk_assignments.proofs.Assigning.{index_assigned}
use Rattle.srb_walk_assignments.proofs.assignments.index_after.Goals as goal

pub returns : goal.returns
returns g c =
    let the = g.L.Language.the c.args.language.now in
    subst (λ j. IfOk c.element_after.result (λ ty. judged ty (seen_state c.element_after.new.state) ≡ j))
    (index_assigned the (part_of the c.args.value.now).it c.args.receiver.now (operands_of (known_arguments the c.args.row.now)) c.args.bracket
    (seen_context c.args.context.now) (seen_context c.of.result.now) (seen_state c.args.state.now)
    (seen_arguments c.in_ok-given.given (seen_state c.arguments.new.state))
    c.in_ok-given.ensures (c.of.ensures ∙ c.in_ok-last.ensures))
    c.element_after.ensures
