use Rattle.std.proofs.Common.{arith}
use Rattle.srb_judgement.specs.Cases.{fit_patterns}
use Rattle.srb_judgement.specs.Kept.{seen_context}
use Rattle.srb_judgement.specs.Views.{seen_state}
use Rattle.srb_walk.specs.Beside.{seen_beside}
use Rattle.srb_walk.specs.Known.{known_trees}
use Rattle.srb_walk_control.specs.Passed.{seen_fitting, seen_subject, subject_test}
use Rattle.srb_walk_control.proofs.Casing.{fits_step}
use Rattle.srb_walk_control.proofs.cases.patterns.Goals as goal

pub row-preserved : goal.row-preserved
row-preserved g c = let the = g.L.Language.the c.args.language.now in let test = subject_test the (seen_subject c.args.subject.now) in
    let around = seen_context c.args.context.now in
    let entry = seen_beside c.args.beside.now around in
    fits_step the test c.args.row.now c.row.each-index c.each-item.result (seen_beside c.row.beside around) (seen_beside c.fit.new.beside around)
    (seen_fitting c.row.so_far (seen_state c.row.state)) (seen_fitting c.fit.new.so_far (seen_state c.fit.new.state))
    (fit_patterns the test (known_trees the c.args.row.now) entry (seen_fitting c.args.so_far.now (seen_state c.args.state.now))) entry
    (omega arith) c.each-item.is c.in_ok-fit.ensures c.row.invariant
