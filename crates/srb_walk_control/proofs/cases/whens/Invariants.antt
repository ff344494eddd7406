use Rattle.std.proofs.Common.{◌≡◌, drop}
use Rattle.srb_judgement.specs.Cases.{with_whens}
use Rattle.srb_judgement.specs.Kept.{seen_context}
use Rattle.srb_judgement.specs.Views.{seen_state}
use Rattle.srb_walk.specs.Beside.{seen_beside}
use Rattle.srb_walk.specs.Known.{known_whens}
use Rattle.srb_walk_control.specs.Passed.{placed, seen_branching, seen_subject, subject_test}
use Rattle.srb_walk_control.proofs.cases.whens.Given as goal

abbrev pub invariant-row : goal.invariant-row
invariant-row g l = let the = g.L.Language.the l.language in let test = subject_test the (seen_subject l.subject) in
    let now = seen_beside l.beside (seen_context l.context) in let before = seen_beside l.fn.beside (seen_context l.context) in
    placed now (with_whens the test (known_whens the (drop l.each-index l.row)) now (seen_branching l.so_far (seen_state l.state)))
    ≡ placed before (with_whens the test (known_whens the l.row) before (seen_branching l.fn.so_far (seen_state l.fn.state)))
