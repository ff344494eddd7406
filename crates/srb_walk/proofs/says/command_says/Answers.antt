use Rattle.std.proofs.Common.{None, ap, sym, ◌∙◌}
use Rattle.std.proofs.lemmas.Result.{IfOk-weaker}
use Rattle.srb_judgement.specs.Chains.{operands_of}
use Rattle.srb_judgement.specs.Conditions.{command_says}
use Rattle.srb_judgement.specs.Judgements.{part_of}
use Rattle.srb_judgement.specs.Kept.{seen_context}
use Rattle.srb_walk.proofs.EndingProofs.{ends_as_written}
use Rattle.srb_walk.proofs.Sayings.{blocked_says}
use Rattle.srb_walk.specs.Endings.{known_end}
use Rattle.srb_walk.specs.Known.{known_arguments, known_block, known_blocks}
use Rattle.srb_walk.proofs.says.command_says.Goals as goal

pub returns-in-None : goal.returns-in-None
returns-in-None g c =
    let L = g.L.Language.the c.args.language.now in
    IfOk-weaker c.end_says.result _ _
    (λ s h. h
    ∙ ap (λ end. command_says L (known_end L end) (operands_of (known_arguments L c.args.row.now)) None (seen_context c.args.context.now)) c.of.ensures
    ∙ ap (λ ending. command_says L ending (operands_of (known_arguments L c.args.row.now)) None (seen_context c.args.context.now)) (sym (ends_as_written L c.args.callee.now))
    ∙ ap (λ b. command_says L (part_of L c.args.callee.now).ending (operands_of (known_arguments L c.args.row.now)) (known_blocks L b) (seen_context c.args.context.now)) (sym c.in-None.is))
    c.end_says.ensures

pub returns-in-Some : goal.returns-in-Some
returns-in-Some g c =
    let L = g.L.Language.the c.args.language.now in
    sym (ap (λ b. command_says L (part_of L c.args.callee.now).ending (operands_of (known_arguments L c.args.row.now)) (known_blocks L b) (seen_context c.args.context.now)) c.in-Some.is
    ∙ blocked_says L (part_of L c.args.callee.now).ending (operands_of (known_arguments L c.args.row.now)) (known_block L c.in-Some.field-0) (seen_context c.args.context.now))
