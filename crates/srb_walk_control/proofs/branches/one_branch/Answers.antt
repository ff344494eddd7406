use Rattle.std.proofs.Common.{false, ap, ◌∙◌}
use Rattle.srb_judgement.specs.Branches.{turned}
use Rattle.srb_judgement.specs.Judgements.{part_of}
use Rattle.srb_judgement.specs.Kept.{seen_context}
use Rattle.srb_judgement.specs.States.{moved}
use Rattle.srb_judgement.specs.Views.{seen_state}
use Rattle.srb_walk.specs.Assigned.{names_of}
use Rattle.srb_walk.specs.Beside.{seen_beside}
use Rattle.srb_walk.specs.Judging.{test_of}
use Rattle.srb_walk_control.specs.Passed.{seen_branching}
use Rattle.srb_walk_control.proofs.Branching.{one_is}
use Rattle.srb_walk_control.proofs.branches.one_branch.Goals as goal

pub returns : goal.returns
returns g c = let the = g.L.Language.the c.args.language.now in
    let before = seen_state c.args.state.now in
    let around = seen_beside c.args.beside.now (seen_context c.args.context.now) in
    c.in_ok-taken.ensures
    ∙ one_is the (part_of the c.args.body.now) (names_of the false c.args.condition.now) around (seen_beside c.see.new.self (seen_context c.args.context.now))
    (seen_branching c.judge_condition.new.so_far (seen_state c.judge_condition.new.state)) (seen_branching c.args.so_far.now before)
    (turned c.args.which (test_of the c.args.condition.now around before))
    c.in_ok-see.ensures c.in_ok-judge_condition.ensures.ends
    (c.in_ok-judge_condition.ensures.rest ∙ ap (λ x. (turned c.args.which (test_of the c.args.condition.now x before)).falsehood) c.of.ensures)
    (c.in_ok-judge_condition.ensures.state
    ∙ ap (λ x. moved (turned c.args.which (test_of the c.args.condition.now x before)).truth (turned c.args.which (test_of the c.args.condition.now x before)).state) c.of.ensures)
