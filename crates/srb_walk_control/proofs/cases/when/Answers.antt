use Rattle.std.proofs.Common.{[], ap, ◌∙◌}
use Rattle.srb_judgement.specs.Cases.{after_patterns, fit_patterns, fitting}
use Rattle.srb_judgement.specs.Judgements.{part_of}
use Rattle.srb_judgement.specs.Kept.{seen_context}
use Rattle.srb_judgement.specs.Views.{seen_environment, seen_state}
use Rattle.srb_walk.specs.Beside.{seen_beside}
use Rattle.srb_walk.specs.Known.{known_trees}
use Rattle.srb_walk_control.specs.Passed.{placed, seen_branching, seen_subject, subject_test}
use Rattle.srb_walk_control.proofs.Branching.{one_is}
use Rattle.srb_walk_control.proofs.cases.when.Goals as goal

pub returns : goal.returns
returns g c = let the = g.L.Language.the c.args.language.now in
    let before = seen_state c.args.state.now in
    let around = seen_beside c.args.beside.now (seen_context c.args.context.now) in
    let test = subject_test the (seen_subject c.args.subject.now) in
    let so_far = seen_branching c.args.so_far.now before in
    let body = part_of the c.args.when.now.body in
    let f = fit_patterns the test (known_trees the c.as_slice.result.now) around (fitting the so_far.rest [] before) in
    c.in_ok-taken.ensures
    ∙ one_is the body f.visible around (seen_beside c.fitted.new.beside (seen_context c.args.context.now))
    (seen_branching c.fitted.new.so_far (seen_state c.fitted.new.state)) so_far
    (record { ty = the.never; truth = f.fits; falsehood = f.rest; state = f.state })
    c.in_ok-fitted.ensures.seen c.in_ok-fitted.ensures.ends c.in_ok-fitted.ensures.rest c.in_ok-fitted.ensures.state
    ∙ ap (λ row. placed around (after_patterns the body around so_far (fit_patterns the test (known_trees the row) around (fitting the so_far.rest [] before)))) c.as_slice.ensures
