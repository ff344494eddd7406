use Rattle.srb_judgement.specs.Kept.{seen_context}
use Rattle.srb_judgement.specs.States.{judged}
use Rattle.srb_judgement.specs.Views.{seen_state}
use Rattle.srb_infer.proofs.Bodying.{program_is}
use Rattle.srb_infer.proofs.bodies.program.Goals as goal

pub returns : goal.returns
returns g c = let the = g.L.Language.the c.args.language.now in
    program_is the c.args.tree.now (seen_context c.in_ok-context.context) (seen_state c.in_ok-state.state)
    (judged c.in_ok-judge.field-0 (seen_state c.judge.new.state)) c.new.result c.bodies.new.errors
    c.in_ok-context.ensures c.in_ok-state.ensures c.in_ok-judge.ensures c.new.ensures c.in_ok-bodies.ensures
