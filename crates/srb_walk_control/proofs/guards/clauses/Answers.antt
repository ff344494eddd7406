use Rattle.std.proofs.Common.{arith}
use Rattle.srb_judgement.specs.Guards.{with_clauses}
use Rattle.srb_judgement.specs.Kept.{seen_context}
use Rattle.srb_judgement.specs.Views.{seen_state}
use Rattle.srb_walk.specs.Known.{known_rescues}
use Rattle.srb_walk_control.specs.Passed.{seen_rescuing}
use Rattle.srb_walk_control.proofs.Casing.{clauses_step}
use Rattle.srb_walk_control.proofs.guards.clauses.Goals as goal

pub row-preserved : goal.row-preserved
row-preserved g c = let the = g.L.Language.the c.args.language.now in
    clauses_step the c.args.row.now c.row.each-index c.each-item.result (seen_context c.args.context.now)
    (seen_rescuing c.row.so_far (seen_state c.row.state)) (seen_rescuing c.clause.new.so_far (seen_state c.clause.new.state))
    (with_clauses the (known_rescues the c.args.row.now) (seen_context c.args.context.now) (seen_rescuing c.args.so_far.now (seen_state c.args.state.now)))
    (omega arith) c.each-item.is c.in_ok-clause.ensures c.row.invariant
