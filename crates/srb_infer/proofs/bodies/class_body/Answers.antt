use Rattle.srb_judgement.specs.Judgements.{part_of}
use Rattle.srb_judgement.specs.Kept.{seen_context}
use Rattle.srb_judgement.specs.States.{judged}
use Rattle.srb_judgement.specs.Views.{seen_state}
use Rattle.srb_infer.proofs.Bodying.{class_errors_are}
use Rattle.srb_infer.proofs.bodies.class_body.Goals as goal

pub returns : goal.returns
returns g c =
    class_errors_are (g.L.Language.the c.args.language.now) (part_of (g.L.Language.the c.args.language.now) c.args.body.now)
    (seen_context c.args.context.now) (seen_state c.fresh-state.result)
    (judged c.in_ok-class_judged.field-0 (seen_state c.class_judged.new.state)) c.fresh-state.ensures c.in_ok-class_judged.ensures
