use Rattle.std.proofs.Common.{◌∙◌}
use Rattle.std.proofs.lemmas.Result.{IfOk-weaker}
use Rattle.srb_judgement.specs.Chains.{operands_of}
use Rattle.srb_judgement.specs.Narrowing.{says_call}
use Rattle.srb_walk.specs.Known.{known_arguments}
use Rattle.srb_walk.proofs.says.call_says.Goals as goal

pub returns : goal.returns
returns g c =
    let L = g.L.Language.the c.args.language.now in
    IfOk-weaker c.spelled_says.result _ _
    (λ s h. h ∙ (λ i. says_call L ((c.of.ensures ∙ c.in_ok-inner.ensures) i) (c.in_ok-spelled.ensures i) c.args.name.now
    (operands_of (known_arguments L c.args.row.now))))
    c.spelled_says.ensures
