use Rattle.std.proofs.lemmas.Result.{IfOk-weaker}
use Rattle.srb_judgement.specs.Kept.{seen_context}
use Rattle.srb_judgement.specs.Views.{seen_state}
use Rattle.srb_walk_calls.proofs.steps.types_given.Goals as goal

pub returns : goal.returns
returns g c = IfOk-weaker c.block_types.result _ _ (λ types h. h (seen_state c.args.state.now)) c.block_types.ensures
