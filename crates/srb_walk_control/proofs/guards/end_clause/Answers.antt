use Rattle.std.proofs.Common.{false, ◌++◌, refl}
use Rattle.srb_judgement.specs.States.{judged}
use Rattle.srb_judgement.specs.Views.{seen_ends, seen_environment, seen_state}
use Rattle.srb_walk.specs.Assigned.{names_of}
use Rattle.srb_walk_control.specs.Passed.{seen_rescuing}
use Rattle.srb_walk_control.proofs.Guarding.{body_is}
use Rattle.srb_walk_control.proofs.guards.end_clause.Goals as goal

pub returns : goal.returns
returns g c =
    let the = g.L.Language.the c.args.language.now in
    let before = seen_state c.args.state.now in
    let j = judged c.args.ty before in
    body_is the (seen_rescuing c.args.so_far.now before) (seen_environment c.args.so_far.now.patterns)
    (c.args.so_far.now.visible ++ names_of the false c.args.body.now) c.assigned.new.found (seen_ends c.add_end.new.ends)
    j j (seen_state c.add_end.new.state) c.in_ok-assigned.ensures refl c.in_ok-add_end.ensures.ends c.in_ok-add_end.ensures.state
