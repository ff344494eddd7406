use Rattle.std.proofs.Common.{ℕ, Bool, List, ◌++◌, filter, ap, ◌∙◌}
use Rattle.std.proofs.lemmas.Result.{IfOk-weaker}
use Rattle.srb_judgement.specs.Kept.{sees}
use Rattle.srb_judgement.proofs.Steps.{passed_filter}
use Rattle.srb_judgement.proofs.guards.names_ensured.Goals as goal

pub returns : goal.returns
returns c =
    let seen : List ℕ → Bool = sees c.args.context.now in
    IfOk-weaker c.with_seen.result _ _
    (λ all h. h
    ∙ passed_filter seen c.in_ok-own.own c.args.assigns.now
    ∙ ap (λ own. own ++ filter seen c.args.assigns.now) c.in_ok-own.ensures)
    c.with_seen.ensures
