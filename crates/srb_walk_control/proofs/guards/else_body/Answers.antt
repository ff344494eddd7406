use Rattle.std.proofs.Common.{false, ◌++◌, ap, ◌∙◌}
use Rattle.srb_judgement.specs.Guards.{with_else_end}
use Rattle.srb_judgement.specs.Kept.{seen_context}
use Rattle.srb_judgement.specs.States.{moved, seeing}
use Rattle.srb_judgement.specs.Views.{seen_environment, seen_state}
use Rattle.srb_walk.specs.Assigned.{names_of}
use Rattle.srb_walk.specs.Judging.{judge_of}
use Rattle.srb_walk_control.specs.Passed.{seen_rescuing, settled_rescuing}
use Rattle.srb_walk_control.proofs.guards.else_body.Goals as goal

pub returns : goal.returns
returns g c =
    let the = g.L.Language.the c.args.language.now in
    let before = seen_state c.args.state.now in
    let so_far = c.args.so_far.now in
    c.in_ok-end_else.ensures
    ∙ ap (λ j. settled_rescuing (with_else_end the (seen_rescuing so_far before) (so_far.visible ++ names_of the false c.args.body.now) j))
    (c.in_ok-ty.ensures ∙ ap (λ names. judge_of the c.args.body.now (seeing names (seen_context c.args.context.now)) (moved (seen_environment c.args.entry) before)) c.as_slice.ensures)
