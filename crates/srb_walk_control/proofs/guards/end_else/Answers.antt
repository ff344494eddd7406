use Rattle.std.proofs.Common.{false, ◌++◌, refl}
use Rattle.srb_judgement.specs.States.{judged}
use Rattle.srb_judgement.specs.Views.{seen_ends, seen_environment, seen_state}
use Rattle.srb_walk.specs.Assigned.{names_of}
use Rattle.srb_walk_control.specs.Passed.{seen_rescuing}
use Rattle.srb_walk_control.proofs.Guarding.{else_is}
use Rattle.srb_walk_control.proofs.guards.end_else.Goals as goal

pub returns : goal.returns
returns g c =
    let the = g.L.Language.the c.args.language.now in
    let before = seen_state c.args.state.now in
    let j = judged c.args.ty before in
    else_is the (seen_rescuing c.args.so_far.now before)
    (c.args.so_far.now.visible ++ names_of the false c.args.body.now) c.assigned.new.found (seen_ends c.add_first_end.new.ends)
    (seen_environment c.take_environment-after.result) j j (seen_state c.take_environment-after.new.self)
    c.in_ok-assigned.ensures refl c.take_environment-after.ensures.taken c.in_ok-add_first_end.ensures c.take_environment-after.ensures.left
