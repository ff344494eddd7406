use Rattle.std.proofs.lemmas.Result.{IfOk-weaker}
use Rattle.srb_judgement.specs.Kept.{seen_context}
use Rattle.srb_judgement.specs.Views.{seen_state}
use Rattle.srb_walk_calls.proofs.steps.must.Goals as goal

pub returns : goal.returns
returns g c = IfOk-weaker c.must_type.result _ _ (λ ty h. h (seen_state c.args.state.now)) c.must_type.ensures
