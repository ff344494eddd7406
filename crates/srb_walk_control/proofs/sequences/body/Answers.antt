use Rattle.std.proofs.Common.{arith}
use Rattle.srb_judgement.specs.Kept.{seen_context}
use Rattle.srb_judgement.specs.Sequences.{body}
use Rattle.srb_judgement.specs.States.{judged}
use Rattle.srb_judgement.specs.Views.{seen_state}
use Rattle.srb_walk.specs.Beside.{seen_beside}
use Rattle.srb_walk.specs.Known.{known_trees}
use Rattle.srb_walk_control.proofs.Sequencing.{statements_step}
use Rattle.srb_walk_control.proofs.sequences.body.Goals as goal

pub statements-preserved : goal.statements-preserved
statements-preserved g c = let the = g.L.Language.the c.args.language.now in let around = seen_context c.args.context.now in
    statements_step the c.args.statements.now c.statements.each-index c.each-item.result
    (seen_beside c.statements.beside around) (seen_beside c.statement.new.beside around)
    (judged c.statements.ty (seen_state c.statements.state)) (judged c.in_ok-ty-2.ty (seen_state c.statement.new.state))
    (body the (known_trees the c.args.statements.now) around (seen_state c.args.state.now))
    (omega arith) c.each-item.is c.in_ok-ty-2.ensures.judged c.in_ok-ty-2.ensures.seen c.statements.invariant
