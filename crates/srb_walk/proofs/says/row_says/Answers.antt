use Rattle.std.proofs.Common.{sym, ◌∙◌}
use Rattle.std.proofs.lemmas.Result.{IfOk-weaker}
use Rattle.srb_judgement.specs.Kept.{seen_context}
use Rattle.srb_walk.proofs.Sayings.{row_said}
use Rattle.srb_walk.specs.Saying.{last_says}
use Rattle.srb_walk.proofs.says.row_says.Goals as goal

pub returns : goal.returns
returns g c =
    let L = g.L.Language.the c.args.language.now in
    IfOk-weaker c.last_says.result _ _
    (λ s h. h ∙ (λ i. last_says L (c.without_last.ensures i) (c.last.ensures i) (seen_context c.args.context.now))
    ∙ sym (row_said L c.args.row.operand.now c.args.row.suffixes.now (seen_context c.args.context.now)))
    c.last_says.ensures
