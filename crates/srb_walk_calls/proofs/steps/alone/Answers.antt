use Rattle.std.proofs.lemmas.Result.{IfOk-weaker}
use Rattle.srb_judgement.specs.Kept.{seen_context}
use Rattle.srb_judgement.specs.Views.{seen_state}
use Rattle.srb_walk_calls.proofs.steps.alone.Goals as goal

pub returns : goal.returns
returns g c = IfOk-weaker c.call_alone.result _ _ (λ ty h. h (seen_context c.args.context.now)) c.call_alone.ensures
