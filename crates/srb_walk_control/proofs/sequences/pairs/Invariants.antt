use Rattle.std.proofs.Common.{◌≡◌, [], drop}
use Rattle.srb_judgement.specs.Kept.{seen_context}
use Rattle.srb_judgement.specs.Views.{seen_state}
use Rattle.srb_judgement.specs.Words.{judge_pairs}
use Rattle.srb_walk.specs.Known.{known_pairs}
use Rattle.srb_walk.specs.Beside.{seen_beside}
use Rattle.srb_walk_control.proofs.sequences.pairs.Given as goal

abbrev pub invariant-row : goal.invariant-row
invariant-row g l = let the = g.L.Language.the l.language in
    judge_pairs the (known_pairs the (drop l.each-index l.row)) (seen_beside l.beside (seen_context l.context))
    (record { keys = l.keyed.keys; values = l.keyed.values; state = seen_state l.state })
    ≡ judge_pairs the (known_pairs the l.row) (seen_context l.context) (record { keys = []; values = []; state = seen_state l.fn.state })
