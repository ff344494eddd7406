use Rattle.std.proofs.Common.{◌≡◌, IfOk, ◌∙◌, subst}
use Rattle.srb_judgement.specs.Cases.{case_after}
use Rattle.srb_judgement.specs.States.{judged}
use Rattle.srb_judgement.specs.Views.{seen_state}
use Rattle.srb_walk.specs.Known.{known_option, known_whens}
use Rattle.srb_walk_control.specs.Passed.{subject_test}
use Rattle.srb_walk_control.proofs.cases.case_of.Goals as goal

pub returns : goal.returns
returns g c = let the = g.L.Language.the c.args.language.now in
    subst (λ j. IfOk c.all_whens.result (λ ty. judged ty (seen_state c.all_whens.new.state) ≡ j))
    (λ i. case_after the (subject_test the (c.in_ok-subject.ensures i)) (known_whens the c.args.row.now) (known_option the c.args.last.now)
    ((c.of.ensures ∙ c.in_ok-inner.ensures) i) (c.in_ok-judge.ensures i).state)
    c.all_whens.ensures
