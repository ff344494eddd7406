use Rattle.std.proofs.Common.{[], arith}
use Rattle.srb_judgement.specs.Kept.{seen_context}
use Rattle.srb_judgement.specs.Views.{seen_state}
use Rattle.srb_judgement.specs.Words.{judge_pairs}
use Rattle.srb_walk.specs.Beside.{seen_beside}
use Rattle.srb_walk.specs.Known.{known_pairs}
use Rattle.srb_walk_control.proofs.Sequencing.{pairs_step}
use Rattle.srb_walk_control.proofs.sequences.pairs.Goals as goal

pub row-preserved : goal.row-preserved
row-preserved g c = let the = g.L.Language.the c.args.language.now in
    pairs_step the c.args.row.now c.row.each-index c.each-item.result
    (seen_beside c.row.beside (seen_context c.args.context.now)) (seen_beside c.pair.new.beside (seen_context c.args.context.now))
    (record { keys = c.row.keyed.keys; values = c.row.keyed.values; state = seen_state c.row.state })
    (record { keys = c.pair.new.keyed.keys; values = c.pair.new.keyed.values; state = seen_state c.pair.new.state })
    (judge_pairs the (known_pairs the c.args.row.now) (seen_context c.args.context.now) (record { keys = []; values = []; state = seen_state c.args.state.now }))
    (omega arith) c.each-item.is c.in_ok-pair.ensures.judged c.in_ok-pair.ensures.seen c.row.invariant
