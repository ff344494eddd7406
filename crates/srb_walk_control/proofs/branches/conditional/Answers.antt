use Rattle.std.proofs.Common.{◌≡◌, false, [], Some, IfOk, refl, ap, ◌∙◌, subst}
use Rattle.rb_tree.specs.declared.syntax.Test.TheVariants as sense
use Rattle.srb_judgement.specs.Branches.{all_branches, if_judged, with_otherwise}
use Rattle.srb_judgement.specs.Judgements.{part_of}
use Rattle.srb_judgement.specs.Kept.{seen_context}
use Rattle.srb_judgement.specs.States.{judged}
use Rattle.srb_judgement.specs.Views.{seen_ends, seen_state}
use Rattle.srb_walk.specs.Assigned.{names_of}
use Rattle.srb_walk.specs.Beside.{seen_beside}
use Rattle.srb_walk.specs.Judging.{test_of}
use Rattle.srb_walk_control.specs.Passed.{seen_branching}
use Rattle.srb_walk_control.proofs.Branching.{if_is}
use Rattle.srb_walk_control.proofs.branches.conditional.Goals as goal

pub returns : goal.returns
returns g c =
    let the = g.L.Language.the c.args.language.now in
    let around = seen_context c.args.context.now in
    let before = seen_state c.args.state.now in
    let start = seen_beside c.new-beside.result around in
    let inner = seen_beside c.one_branch.new.beside around in
    let last = part_of the c.args.negative.now in
    let all = seen_branching c.one_branch.new.so_far (seen_state c.one_branch.new.state) in
    subst (λ j. IfOk c.last_branch.result (λ ty. judged ty (seen_state c.last_branch.new.state) ≡ j))
    (ap (λ x. all_branches the (with_otherwise the (Some last) x all)) c.of.ensures
    ∙ if_is the (part_of the c.args.positive.now) [] (Some last) (names_of the false c.args.condition.now) start inner inner
    (test_of the c.args.condition.now start before) (seen_ends c.no_branches-so_far.result.ends) (seen_branching c.no_branches-so_far.result before) all all
    c.no_branches-so_far.ensures refl refl c.in_ok-one_branch.ensures refl
    ∙ ap (λ x. if_judged the sense.Positive (part_of the c.args.condition.now) (part_of the c.args.positive.now) [] (Some last) x before) (c.new-beside.ensures around))
    c.last_branch.ensures
