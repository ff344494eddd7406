use Rattle.std.proofs.lemmas.Result.{IfOk-weaker}
use Rattle.srb_judgement.specs.Kept.{seen_context}
use Rattle.srb_judgement.specs.Views.{seen_state}
use Rattle.srb_walk_calls.proofs.steps.or_nil.Goals as goal

pub returns : goal.returns
returns g c = IfOk-weaker c.or_nil_of.result _ _ (λ ty h. h (seen_state c.args.state.now)) c.or_nil_of.ensures
