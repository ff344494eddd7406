use Rattle.std.proofs.Common.{ap, ◌∙◌}
use Rattle.srb_judgement.specs.Environments.{joined}
use Rattle.srb_judgement.specs.Judgements.{part_of}
use Rattle.srb_judgement.specs.Kept.{seen_context}
use Rattle.srb_judgement.specs.States.{moved}
use Rattle.srb_judgement.specs.Views.{seen_environment, seen_state, seen_tested, settled}
use Rattle.srb_walk.specs.Beside.{seen_beside}
use Rattle.srb_walk_control.specs.Passed.{seen_fitting, seen_subject, subject_test}
use Rattle.srb_walk_control.proofs.Casing.{fit_is}
use Rattle.srb_walk_control.proofs.cases.fit.Goals as goal

pub returns : goal.returns
returns g c = let the = g.L.Language.the c.args.language.now in
    let before = seen_state c.args.state.now in
    let around = seen_beside c.args.beside.now (seen_context c.args.context.now) in
    let part = part_of the c.args.tree.now in
    let test = subject_test the (seen_subject c.args.subject.now) in
    let so_far = seen_fitting c.args.so_far.now before in
    let tested = seen_tested c.in_ok-tested.tested (seen_state c.pattern.new.state) in
    fit_is the test part around (seen_beside c.see.new.self (seen_context c.args.context.now)) so_far
    tested (test part around (moved so_far.rest before)) (seen_environment c.add_fit.new.so_far.fits) (seen_environment c.add_fit.new.so_far.rest)
    (c.in_ok-tested.ensures
    ∙ (λ i. settled (test part (c.of.ensures i) (moved (c.take_unfit.ensures.taken i) before))))
    (c.in_ok-add_fit.ensures.fits ∙ ap (λ e. joined the e tested.truth) c.take_unfit.ensures.fits) c.in_ok-add_fit.ensures.rest c.in_ok-see.ensures
