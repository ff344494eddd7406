use Rattle.std.proofs.Common.{◌≡◌, false, IfOk, refl, ap, ◌∙◌, subst}
use Rattle.srb_judgement.specs.Branches.{all_branches, if_judged, turned, with_otherwise}
use Rattle.srb_judgement.specs.Judgements.{part_of}
use Rattle.srb_judgement.specs.Kept.{seen_context}
use Rattle.srb_judgement.specs.States.{judged}
use Rattle.srb_judgement.specs.Views.{seen_ends, seen_state}
use Rattle.srb_walk.specs.Assigned.{names_of}
use Rattle.srb_walk.specs.Beside.{seen_beside}
use Rattle.srb_walk.specs.Judging.{test_of}
use Rattle.srb_walk.specs.Known.{known_arms, known_option}
use Rattle.srb_walk_control.specs.Passed.{seen_branching}
use Rattle.srb_walk_control.proofs.Branching.{if_is}
use Rattle.srb_walk_control.proofs.branches.branches.Goals as goal

pub returns : goal.returns
returns g c =
    let the = g.L.Language.the c.args.language.now in
    let around = seen_context c.args.context.now in
    let before = seen_state c.args.state.now in
    let start = seen_beside c.new-beside.result around in
    let last = known_option the c.args.last.now in
    let all = seen_branching c.arms.new.so_far (seen_state c.arms.new.state) in
    subst (λ j. IfOk c.otherwise.result (λ ty. judged ty (seen_state c.otherwise.new.state) ≡ j))
    (ap (λ x. all_branches the (with_otherwise the last x all)) c.of.ensures
    ∙ if_is the (part_of the c.args.body.now) (known_arms the c.args.row.now) last (names_of the false c.args.condition.now)
    start (seen_beside c.one_branch.new.beside around) (seen_beside c.arms.new.beside around)
    (turned c.args.which (test_of the c.args.condition.now start before)) (seen_ends c.no_branches-so_far.result.ends)
    (seen_branching c.no_branches-so_far.result before) (seen_branching c.one_branch.new.so_far (seen_state c.one_branch.new.state)) all
    c.no_branches-so_far.ensures refl refl c.in_ok-one_branch.ensures c.in_ok-arms.ensures
    ∙ ap (λ x. if_judged the c.args.which (part_of the c.args.condition.now) (part_of the c.args.body.now) (known_arms the c.args.row.now) last x before)
    (c.new-beside.ensures around))
    c.otherwise.ensures
