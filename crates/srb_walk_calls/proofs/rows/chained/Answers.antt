use Rattle.std.proofs.Common.{ap, sym, ◌∙◌}
use Rattle.std.specs.Option.{option_copied}
use Rattle.std.proofs.lemmas.Result.{IfOk-weaker}
use Rattle.srb_judgement.specs.Judgements.{part_of}
use Rattle.srb_judgement.specs.Kept.{seen_context}
use Rattle.srb_judgement.specs.Views.{seen_state}
use Rattle.srb_walk_calls.proofs.Chained.{chained_by, chained_none}
use Rattle.srb_walk_calls.proofs.rows.chained.Goals as goal

pub returns-in-None : goal.returns-in-None
returns-in-None g c = let the = g.L.Language.the c.args.language.now in
    IfOk-weaker c.judge.result _ _
    (λ ty h. h ∙ chained_none the c.args.row.now (part_of the c.args.receiver.now).it (seen_context c.args.context.now) (seen_state c.args.state.now) (sym c.last.ensures ∙ ap option_copied c.in-None.is))
    c.judge.ensures

pub returns-in-Some : goal.returns-in-Some
returns-in-Some g c = let the = g.L.Language.the c.args.language.now in
    IfOk-weaker c.reached_or.result _ _
    (λ ty h. h ∙ chained_by the c.args.row.now c.in-Some.last.now (part_of the c.args.receiver.now).it (seen_context c.args.context.now) (seen_state c.args.state.now) (sym c.last.ensures ∙ ap option_copied c.in-Some.is))
    c.reached_or.ensures
