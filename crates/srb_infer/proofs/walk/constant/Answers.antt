use Rattle.std.proofs.lemmas.Result.{IfOk-weaker}
use Rattle.srb_judgement.specs.Views.{seen_state}
use Rattle.srb_infer.proofs.walk.constant.Goals as goal

pub returns : goal.returns
returns g c = IfOk-weaker c.named_constant.result _ _ (λ ty h. h (seen_state c.args.state.now)) c.named_constant.ensures
