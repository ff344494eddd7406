use Rattle.std.proofs.Common.{map, arith}
use Rattle.srb_judgement.specs.Kept.{seen_context}
use Rattle.srb_judgement.specs.Sequences.{judge_all}
use Rattle.srb_judgement.specs.Variables.{part_operand}
use Rattle.srb_judgement.specs.Views.{seen_state}
use Rattle.srb_walk.specs.Beside.{seen_beside}
use Rattle.srb_walk.specs.Known.{known_trees}
use Rattle.srb_walk_control.proofs.Sequencing.{operands_step}
use Rattle.srb_walk_control.proofs.sequences.operands.Goals as goal

pub row-preserved : goal.row-preserved
row-preserved g c = let the = g.L.Language.the c.args.language.now in let around = seen_context c.args.context.now in
    operands_step the c.args.row.now c.row.operand-index c.operand-item.result
    (seen_beside c.row.beside around) (seen_beside c.add.new.beside around)
    (record { types = c.row.types; state = seen_state c.row.state }) (record { types = c.add.new.types; state = seen_state c.add.new.state })
    (judge_all (map part_operand (known_trees the c.args.row.now)) around (seen_state c.args.state.now))
    (omega arith) c.operand-item.is c.in_ok-add.ensures.judged c.in_ok-add.ensures.seen c.row.invariant
