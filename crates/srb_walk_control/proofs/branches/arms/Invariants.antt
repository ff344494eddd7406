use Rattle.std.proofs.Common.{◌≡◌, drop}
use Rattle.srb_judgement.specs.Branches.{with_arms}
use Rattle.srb_judgement.specs.Kept.{seen_context}
use Rattle.srb_judgement.specs.Views.{seen_state}
use Rattle.srb_walk.specs.Beside.{seen_beside}
use Rattle.srb_walk.specs.Known.{known_arms}
use Rattle.srb_walk_control.specs.Passed.{placed, seen_branching}
use Rattle.srb_walk_control.proofs.branches.arms.Given as goal

abbrev pub invariant-row : goal.invariant-row
invariant-row g l = let the = g.L.Language.the l.language in
    let now = seen_beside l.beside (seen_context l.context) in let before = seen_beside l.fn.beside (seen_context l.context) in
    placed now (with_arms the (known_arms the (drop l.each-index l.row)) now (seen_branching l.so_far (seen_state l.state)))
    ≡ placed before (with_arms the (known_arms the l.row) before (seen_branching l.fn.so_far (seen_state l.fn.state)))
