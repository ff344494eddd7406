use Rattle.std.proofs.Common.{◌≡◌, drop}
use Rattle.srb_judgement.specs.Kept.{seen_context}
use Rattle.srb_judgement.specs.Views.{seen_state}
use Rattle.srb_judgement.specs.Words.{judge_pieces}
use Rattle.srb_walk.specs.Known.{known_pieces}
use Rattle.srb_walk.specs.Beside.{seen_beside}
use Rattle.srb_walk_control.proofs.sequences.pieces.Given as goal

abbrev pub invariant-row : goal.invariant-row
invariant-row g l = let the = g.L.Language.the l.language in
    judge_pieces the (known_pieces the (drop l.each-index l.row)) (seen_beside l.beside (seen_context l.context)) (seen_state l.state)
    ≡ judge_pieces the (known_pieces the l.row) (seen_context l.context) (seen_state l.fn.state)
