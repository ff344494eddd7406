use Rattle.std.proofs.Common.{◌≡◌, false, IfOk, subst}
use Rattle.srb_judgement.specs.Branches.{turned}
use Rattle.srb_judgement.specs.Judgements.{part_of}
use Rattle.srb_judgement.specs.Kept.{seen_context}
use Rattle.srb_judgement.specs.States.{judged, seeing}
use Rattle.srb_judgement.specs.Views.{seen_ends, seen_environment, seen_state}
use Rattle.srb_walk.specs.Assigned.{names_of}
use Rattle.srb_walk.specs.Judging.{test_of}
use Rattle.srb_walk_control.proofs.Branching.{modified_is}
use Rattle.srb_walk_control.proofs.branches.modified_if.Goals as goal

pub returns : goal.returns
returns g c = let the = g.L.Language.the c.args.language.now in let around = seen_context c.args.context.now in
    subst (λ j. IfOk c.without_otherwise.result (λ ty. judged ty (seen_state c.without_otherwise.new.state) ≡ j))
    (modified_is the (part_of the c.args.statement.now) around
    (turned c.args.which (test_of the c.args.condition.now (seeing (names_of the false c.args.statement.now) around) (seen_state c.args.state.now)))
    (seen_ends c.no_branches-so_far.result.ends) (seen_ends c.condition_after.new.so_far.ends) (seen_ends c.branch-alloc.new.ends)
    (seen_environment c.condition_after.new.so_far.rest) (seen_state c.condition_after.new.state) (seen_state c.branch-alloc.new.state)
    c.no_branches-so_far.ensures c.in_ok-condition_after.ensures.ends c.in_ok-condition_after.ensures.rest c.in_ok-condition_after.ensures.state
    c.in_ok-branch.ensures.ends c.in_ok-branch.ensures.state)
    c.without_otherwise.ensures
