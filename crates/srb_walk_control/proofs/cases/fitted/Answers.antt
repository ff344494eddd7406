use Rattle.std.proofs.Common.{◌≡◌, [], ap, ◌∙◌}
use Rattle.srb_judgement.specs.Cases.{fit_patterns, fitting}
use Rattle.srb_judgement.specs.Kept.{seen_context}
use Rattle.srb_judgement.specs.States.{moved}
use Rattle.srb_judgement.specs.Views.{seen_state}
use Rattle.srb_walk.specs.Beside.{seen_beside}
use Rattle.srb_walk.specs.Known.{known_trees}
use Rattle.srb_walk_control.specs.Passed.{PlacedFitting, placed_fitting, seen_subject, subject_test}
use Rattle.srb_walk_control.proofs.cases.fitted.Goals as goal

pub returns-clause-rest : goal.returns-clause-rest
returns-clause-rest g c = let the = g.L.Language.the c.args.language.now in
    let around = seen_beside c.args.beside.now (seen_context c.args.context.now) in
    ap (λ (p : PlacedFitting). p.fitting.rest)
    (c.in_ok-patterns.ensures
    ∙ ap (λ e. placed_fitting around
    (fit_patterns the (subject_test the (seen_subject c.args.subject.now)) (known_trees the c.args.row.now) around (fitting the e [] (seen_state c.args.state.now))))
    c.take_rest-rest.ensures.taken)

pub returns-clause-state : goal.returns-clause-state
returns-clause-state g c = let the = g.L.Language.the c.args.language.now in
    let around = seen_beside c.args.beside.now (seen_context c.args.context.now) in
    ap (λ (p : PlacedFitting). moved p.fitting.fits p.fitting.state)
    (c.in_ok-patterns.ensures
    ∙ ap (λ e. placed_fitting around
    (fit_patterns the (subject_test the (seen_subject c.args.subject.now)) (known_trees the c.args.row.now) around (fitting the e [] (seen_state c.args.state.now))))
    c.take_rest-rest.ensures.taken)

pub returns-clause-seen : goal.returns-clause-seen
returns-clause-seen g c = let the = g.L.Language.the c.args.language.now in
    let around = seen_beside c.args.beside.now (seen_context c.args.context.now) in
    ap (λ (p : PlacedFitting). p.around)
    (c.in_ok-patterns.ensures
    ∙ ap (λ e. placed_fitting around
    (fit_patterns the (subject_test the (seen_subject c.args.subject.now)) (known_trees the c.args.row.now) around (fitting the e [] (seen_state c.args.state.now))))
    c.take_rest-rest.ensures.taken)

pub returns-clause-ends : goal.returns-clause-ends
returns-clause-ends g c = c.take_rest-rest.ensures.ends
