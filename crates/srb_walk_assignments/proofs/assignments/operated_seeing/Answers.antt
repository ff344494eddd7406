use Rattle.std.proofs.Common.{◌≡◌, ◌∙◌, IfOk, ap, subst}
use Rattle.srb_judgement.specs.Judgements.{part_of}
use Rattle.srb_judgement.specs.States.{judged}
use Rattle.srb_judgement.specs.Views.{seen_state}
use Rattle.srb_walk_assignments.specs.Operated.{operated_variable}
use Rattle.srb_walk_assignments.proofs.assignments.operated_seeing.Goals as goal

pub returns : goal.returns
returns g c =
    let the = g.L.Language.the c.args.language.now in
    subst (λ j. IfOk c.operated_variable.result (λ ty. judged ty (seen_state c.operated_variable.new.state) ≡ j))
    (ap (λ x. operated_variable the c.args.name.now c.args.operator c.args.place (part_of the c.args.value.now).it x (seen_state c.args.state.now)) (c.of.ensures ∙ c.in_ok-inner.ensures))
    c.operated_variable.ensures
