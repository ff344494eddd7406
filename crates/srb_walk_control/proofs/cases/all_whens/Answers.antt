use Rattle.std.proofs.Common.{◌≡◌, IfOk, ap, ◌∙◌, subst}
use Rattle.srb_judgement.specs.Branches.{all_branches, with_otherwise}
use Rattle.srb_judgement.specs.Cases.{case_after}
use Rattle.srb_judgement.specs.Kept.{seen_context}
use Rattle.srb_judgement.specs.States.{judged}
use Rattle.srb_judgement.specs.Views.{seen_state}
use Rattle.srb_walk.specs.Beside.{seen_beside}
use Rattle.srb_walk.specs.Known.{known_option, known_whens}
use Rattle.srb_walk_control.specs.Passed.{seen_branching, seen_subject, subject_test}
use Rattle.srb_walk_control.proofs.Casing.{case_is}
use Rattle.srb_walk_control.proofs.cases.all_whens.Goals as goal

pub returns : goal.returns
returns g c = let the = g.L.Language.the c.args.language.now in
    let around = seen_context c.args.context.now in
    let before = seen_state c.args.state.now in
    let test = subject_test the (seen_subject c.args.subject.now) in
    let last = known_option the c.args.last.now in
    let all = seen_branching c.whens.new.so_far (seen_state c.whens.new.state) in
    subst (λ j. IfOk c.otherwise.result (λ ty. judged ty (seen_state c.otherwise.new.state) ≡ j))
    (ap (λ x. all_branches the (with_otherwise the last x all)) c.of.ensures
    ∙ case_is the test (known_whens the c.args.row.now) last (seen_beside c.new-beside.result around) (seen_beside c.whens.new.beside around) before
    (seen_branching c.in_ok-so_far.so_far before) all c.in_ok-so_far.ensures c.in_ok-whens.ensures
    ∙ ap (λ x. case_after the test (known_whens the c.args.row.now) last x before) (c.new-beside.ensures around))
    c.otherwise.ensures
