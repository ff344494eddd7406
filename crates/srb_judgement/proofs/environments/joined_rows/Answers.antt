use Rattle.std.proofs.lemmas.Result.{IfOk-weaker}
use Rattle.srb_judgement.proofs.Rows.{join_is}
use Rattle.srb_judgement.proofs.environments.joined_rows.Goals as goal

pub returns : goal.returns
returns g c =
    IfOk-weaker c.with_missing.result _ _
    (λ r h. join_is (g.L.Language.the c.args.language.now) c.args.rows.now.entries c.args.others.now.entries r.entries c.in_ok-all.all.entries
    c.in_ok-all.ensures.unique c.with_missing.ensures.unique c.in_ok-all.ensures.rows h)
    c.with_missing.ensures.rows
