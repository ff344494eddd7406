use Rattle.std.proofs.Common.{◌≡◌, drop, map}
use Rattle.srb_judgement.specs.Kept.{seen_context}
use Rattle.srb_judgement.specs.Sequences.{judge_more, judge_all}
use Rattle.srb_judgement.specs.Variables.{part_operand}
use Rattle.srb_judgement.specs.Views.{seen_state}
use Rattle.srb_walk.specs.Known.{known_trees}
use Rattle.srb_walk.specs.Beside.{seen_beside}
use Rattle.srb_walk_control.proofs.sequences.operands.Given as goal

abbrev pub invariant-row : goal.invariant-row
invariant-row g l = let the = g.L.Language.the l.language in
    judge_more (map part_operand (known_trees the (drop l.operand-index l.row))) (seen_beside l.beside (seen_context l.context)) (record { types = l.types; state = seen_state l.state })
    ≡ judge_all (map part_operand (known_trees the l.row)) (seen_context l.context) (seen_state l.fn.state)
