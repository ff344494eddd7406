use Rattle.std.proofs.Common.{◌∙◌}
use Rattle.std.proofs.lemmas.Result.{IfOk-weaker}
use Rattle.srb_judgement.proofs.SeenNames.{beside-same}
use Rattle.srb_judgement.proofs.visible.settle_in_copy.Goals as goal

pub returns : goal.returns
returns c =
    IfOk-weaker c.settle.result _ _
    (λ v h. λ other. h other ∙ beside-same other c.args.recent.now c.args.names.now.keys c.in_ok-copy.copy.keys (c.in_ok-copy.ensures other))
    c.settle.ensures
