use Rattle.std.proofs.lemmas.Result.{on_ok_weaker}
use Rattle.srb_judgement.specs.Kept.{seen_context}
use Rattle.srb_judgement.specs.Views.{seen_state}
use Rattle.srb_walk_calls.proofs.steps.write.Goals as goal

pub returns : goal.returns
returns g c = on_ok_weaker c.to_call.result (λ h. h (seen_context c.args.context.now) (seen_state c.args.state.now)) c.to_call.ensures
