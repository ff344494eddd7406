use Rattle.std.proofs.Common.{arith}
use Rattle.srb_judgement.specs.Branches.{with_arms}
use Rattle.srb_judgement.specs.Kept.{seen_context}
use Rattle.srb_judgement.specs.Views.{seen_state}
use Rattle.srb_walk.specs.Beside.{seen_beside}
use Rattle.srb_walk.specs.Known.{known_arms}
use Rattle.srb_walk_control.specs.Passed.{seen_branching}
use Rattle.srb_walk_control.proofs.Branching.{arms_step}
use Rattle.srb_walk_control.proofs.branches.arms.Goals as goal

pub row-preserved : goal.row-preserved
row-preserved g c = let the = g.L.Language.the c.args.language.now in
    let around = seen_context c.args.context.now in
    let entry = seen_beside c.args.beside.now around in
    arms_step the c.args.row.now c.row.each-index c.each-item.result (seen_beside c.row.beside around) (seen_beside c.arm.new.beside around)
    (seen_branching c.row.so_far (seen_state c.row.state)) (seen_branching c.arm.new.so_far (seen_state c.arm.new.state))
    (with_arms the (known_arms the c.args.row.now) entry (seen_branching c.args.so_far.now (seen_state c.args.state.now))) entry
    (omega arith) c.each-item.is c.in_ok-arm.ensures c.row.invariant
