use Rattle.std.proofs.Common.{[], ◌∙◌}
use Rattle.std.proofs.lemmas.Result.{IfOk-weaker}
use Rattle.srb_terms.specs.declared.diag.Diag.{Diag}
use Rattle.srb_judgement.specs.Errors.{is_shown}
use Rattle.srb_judgement.proofs.Steps.{passed_filter}
use Rattle.srb_judgement.proofs.errors.shown_errors.Goals as goal

pub returns : goal.returns
returns c =
    IfOk-weaker c.all_shown.result _ _ (λ shown h. h ∙ passed_filter (λ (e : Diag). is_shown c.args.level e.number) [] c.args.errors.now)
    c.all_shown.ensures
