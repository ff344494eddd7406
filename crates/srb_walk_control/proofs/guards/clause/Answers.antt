use Rattle.std.proofs.Common.{ap, ◌∙◌}
use Rattle.srb_judgement.specs.Kept.{seen_context}
use Rattle.srb_judgement.specs.Views.{seen_state}
use Rattle.srb_walk.specs.Known.{known_rescue}
use Rattle.srb_walk_control.specs.Passed.{seen_rescuing, settled_rescuing}
use Rattle.srb_walk_control.proofs.Guarding.{clause_is}
use Rattle.srb_walk_control.proofs.guards.clause.Goals as goal

pub returns : goal.returns
returns g c = let the = g.L.Language.the c.args.language.now in
    c.in_ok-clause_body.ensures
    ∙ ap (λ r. settled_rescuing r)
    (clause_is the (known_rescue the c.args.clause.now) (seen_context c.args.context.now) (seen_rescuing c.args.so_far.now (seen_state c.args.state.now))
    (seen_rescuing c.caught.new.so_far (seen_state c.caught.new.state)) c.in_ok-caught.ensures)
