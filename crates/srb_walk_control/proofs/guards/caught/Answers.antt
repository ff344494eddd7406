use Rattle.std.proofs.Common.{ap, map, ◌∙◌}
use Rattle.srb_terms.specs.declared.ty.Ty.{Ty}
use Rattle.srb_judgement.specs.Kept.{seen_context}
use Rattle.srb_judgement.specs.States.{Several, moved, seeing}
use Rattle.srb_judgement.specs.Views.{seen_environment, seen_state}
use Rattle.srb_judgement.specs.Sequences.{judge_all}
use Rattle.srb_judgement.specs.Variables.{part_operand}
use Rattle.srb_walk.specs.Known.{known_rescue, known_trees}
use Rattle.srb_walk_control.specs.Passed.{seen_rescuing}
use Rattle.srb_walk_control.proofs.Guarding.{caught_is}
use Rattle.srb_walk_control.proofs.guards.caught.Goals as goal

pub returns : goal.returns
returns g c =
    let the = g.L.Language.the c.args.language.now in
    let before = seen_state c.args.state.now in
    let so_far = seen_rescuing c.args.so_far.now before in
    let left = seen_rescuing c.take_patterns.new.so_far before in
    let several : Several Ty = record { types = c.in_ok-operands.field-0; state = seen_state c.operands.new.state } in
    caught_is the (known_rescue the c.args.clause.now) (seen_context c.args.context.now) (seen_context c.of.result.now)
    so_far left (seen_environment c.take_patterns.result) (seen_rescuing c.after_patterns.new.so_far (seen_state c.after_patterns.new.state)) several
    (c.of.ensures ∙ c.in_ok-inner.ensures ∙ ap (λ names. seeing names (seen_context c.args.context.now)) c.as_slice.ensures)
    c.take_patterns.ensures.taken
    (ap (λ e. e.ty) c.take_patterns.ensures.ends) (ap (λ e. seen_environment e.environment) c.take_patterns.ensures.ends)
    c.take_patterns.ensures.visible
    (c.in_ok-operands.ensures
    ∙ ap (λ row. judge_all (map part_operand (known_trees the row)) (seen_context c.of.result.now) (moved (seen_environment c.take_patterns.result) before))
    c.as_slice-2.ensures) c.in_ok-after_patterns.ensures
