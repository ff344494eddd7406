use Rattle.std.proofs.Common.{◌≡◌, drop}
use Rattle.srb_judgement.specs.Cases.{fit_patterns}
use Rattle.srb_judgement.specs.Kept.{seen_context}
use Rattle.srb_judgement.specs.Views.{seen_state}
use Rattle.srb_walk.specs.Beside.{seen_beside}
use Rattle.srb_walk.specs.Known.{known_trees}
use Rattle.srb_walk_control.specs.Passed.{placed_fitting, seen_fitting, seen_subject, subject_test}
use Rattle.srb_walk_control.proofs.cases.patterns.Given as goal

abbrev pub invariant-row : goal.invariant-row
invariant-row g l = let the = g.L.Language.the l.language in let test = subject_test the (seen_subject l.subject) in
    let now = seen_beside l.beside (seen_context l.context) in let before = seen_beside l.fn.beside (seen_context l.context) in
    placed_fitting now (fit_patterns the test (known_trees the (drop l.each-index l.row)) now (seen_fitting l.so_far (seen_state l.state)))
    ≡ placed_fitting before (fit_patterns the test (known_trees the l.row) before (seen_fitting l.fn.so_far (seen_state l.fn.state)))
