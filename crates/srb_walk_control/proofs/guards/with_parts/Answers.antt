use Rattle.std.proofs.Common.{ap, ◌∙◌}
use Rattle.srb_judgement.specs.Judgements.{part_of}
use Rattle.srb_judgement.specs.Kept.{seen_context}
use Rattle.srb_judgement.specs.States.{judged}
use Rattle.srb_judgement.specs.Views.{seen_aside, seen_ends, seen_environment, seen_state}
use Rattle.srb_walk.specs.Known.{known_guarded}
use Rattle.srb_walk_control.proofs.Guarding.{guard_is}
use Rattle.srb_walk_control.proofs.guards.with_parts.Goals as goal

pub returns : goal.returns
returns g c =
    let the = g.L.Language.the c.args.language.now in
    let around = seen_context c.args.context.now in
    let part = part_of the c.args.guarded.now.body in
    let start = c.in_ok-so_far.so_far in
    guard_is the (known_guarded the c.args.guarded.now) around (seen_state c.args.state.now) (seen_state c.take_environment-after.new.self)
    (seen_aside c.in_ok-aside.aside) (judged c.in_ok-first.first (seen_state c.judge.new.state))
    (judged c.in_ok-ty.ty (seen_state c.after_first.new.state)) (judged c.in_ok-ty.ty (seen_state c.leave.new.state))
    (seen_ends start.ends) (seen_environment start.patterns) (seen_environment c.take_environment-after.result) start.visible
    c.in_ok-aside.ensures.aside
    (c.in_ok-first.ensures ∙ ap (λ s. part.it.judge around s) c.in_ok-aside.ensures.state)
    c.in_ok-so_far.ensures.visible c.in_ok-so_far.ensures.patterns
    c.take_environment-after.ensures.taken c.take_environment-after.ensures.left
    c.in_ok-so_far.ensures.ends c.in_ok-ty.ensures c.in_ok-leave.ensures
