use Rattle.srb_judgement.specs.Kept.{seen_context}
use Rattle.srb_judgement.specs.Views.{seen_state}
use Rattle.srb_walk.specs.Known.{known_rescue}
use Rattle.srb_walk_control.specs.Passed.{seen_rescuing}
use Rattle.srb_walk_control.proofs.Guarding.{after_is}
use Rattle.srb_walk_control.proofs.guards.after_patterns.Goals as goal

pub returns : goal.returns
returns g c =
    let the = g.L.Language.the c.args.language.now in
    let before = seen_state c.args.state.now in
    after_is the (known_rescue the c.args.clause.now) (seen_context c.args.context.now) (seen_rescuing c.args.so_far.now before) before
    (seen_state c.catch_all.new.state) c.add_caught.new.visible _
    c.in_ok-add_caught.ensures c.in_ok-so_far.ensures c.in_ok-catch_all.ensures
