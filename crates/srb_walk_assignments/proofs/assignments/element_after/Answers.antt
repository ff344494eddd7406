use Rattle.std.proofs.Common.{◌≡◌, IfOk, ap, subst}
use Rattle.srb_judgement.specs.Judgements.{part_of}
use Rattle.srb_judgement.specs.Kept.{seen_context}
use Rattle.srb_judgement.specs.Assignments.{value_after}
use Rattle.srb_judgement.specs.States.{judged}
use Rattle.srb_judgement.specs.Views.{seen_arguments, seen_state}
use Rattle.srb_walk_assignments.proofs.assignments.element_after.Goals as goal

pub returns : goal.returns
returns g c =
    let the = g.L.Language.the c.args.language.now in
    subst (λ j. IfOk c.value_after.result (λ ty. judged ty (seen_state c.value_after.new.state) ≡ j))
    (ap (λ name. value_after the c.args.receiver.now name c.args.bracket (part_of the c.args.value.now).it (seen_context c.args.context.now) (seen_arguments c.args.given (seen_state c.args.state.now))) c.in_ok-name.ensures)
    c.value_after.ensures
