use Rattle.std.proofs.Common.{refl, ap, ◌∙◌}
use Rattle.srb_judgement.specs.Ends.{Ends}
use Rattle.srb_judgement.specs.Judgements.{part_of}
use Rattle.srb_judgement.specs.Kept.{seen_context}
use Rattle.srb_judgement.specs.States.{moved}
use Rattle.srb_judgement.specs.Views.{seen_environment, seen_state}
use Rattle.srb_terms.specs.declared.ty.Ty.{Ty}
use Rattle.srb_walk.specs.Beside.{seen_beside}
use Rattle.srb_walk.specs.Known.{known_arm}
use Rattle.srb_walk_control.specs.Passed.{seen_branching}
use Rattle.srb_walk_control.proofs.Branching.{arm_is}
use Rattle.srb_walk_control.proofs.branches.arm.Goals as goal

pub returns : goal.returns
returns g c = let the = g.L.Language.the c.args.language.now in
    let before = seen_state c.args.state.now in
    let around = seen_beside c.args.beside.now (seen_context c.args.context.now) in
    c.in_ok-one_branch.ensures
    ∙ arm_is the (known_arm the c.args.arm.now) around (seen_branching c.take_rest.new.so_far (moved (seen_environment c.take_rest.result) before)) (seen_branching c.args.so_far.now before)
    (seen_environment c.take_rest.result) c.take_rest.ensures.ends c.take_rest.ensures.taken
