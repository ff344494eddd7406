use Rattle.std.proofs.Common.{◌≡◌, IfOk, ap, subst}
use Rattle.srb_judgement.specs.Judgements.{part_of}
use Rattle.srb_judgement.specs.Assignments.{assigned}
use Rattle.srb_judgement.specs.Kept.{seen_context}
use Rattle.srb_judgement.specs.States.{judged}
use Rattle.srb_judgement.specs.Views.{seen_state}
use Rattle.srb_walk.proofs.EndingProofs.{ending_told}
use Rattle.srb_walk.specs.Endings.{seen_end}
use Rattle.srb_walk_assignments.proofs.assignments.assign.Goals as goal

pub returns : goal.returns
returns g c = let the = g.L.Language.the c.args.language.now in
    subst (λ j. IfOk c.assign_to.result (λ ty. judged ty (seen_state c.assign_to.new.state) ≡ j))
    (ap (λ e. assigned the e (part_of the c.args.value.now).it (seen_context c.args.context.now) (seen_state c.args.state.now)) (ending_told the c.args.target.now (seen_end c.of.result) c.of.ensures))
    c.assign_to.ensures
