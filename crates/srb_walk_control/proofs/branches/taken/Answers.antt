use Rattle.srb_judgement.specs.Judgements.{part_of}
use Rattle.srb_judgement.specs.Kept.{seen_context}
use Rattle.srb_judgement.specs.Views.{seen_ends, seen_state}
use Rattle.srb_walk.specs.Beside.{seen_beside}
use Rattle.srb_walk_control.specs.Passed.{seen_branching}
use Rattle.srb_walk_control.proofs.Branching.{taken_is}
use Rattle.srb_walk_control.proofs.branches.taken.Goals as goal

pub returns : goal.returns
returns g c = let the = g.L.Language.the c.args.language.now in let around = seen_context c.args.context.now in
    taken_is the (part_of the c.args.body.now) (seen_beside c.args.beside.now around) (seen_context c.of.result.now) (seen_beside c.see.new.self around)
    (seen_branching c.args.so_far.now (seen_state c.args.state.now)) (seen_ends c.branch-alloc.new.ends) (seen_state c.branch-alloc.new.state)
    c.of.ensures c.in_ok-branch.ensures.ends c.in_ok-branch.ensures.state c.in_ok-see.ensures
