use Rattle.std.proofs.lemmas.Result.{IfOk-weaker}
use Rattle.srb_judgement.proofs.Rows.{copy_is}
use Rattle.srb_judgement.proofs.environments.copied_rows.Goals as goal

pub returns : goal.returns
returns c =
    IfOk-weaker c.regrown.result _ _ (λ all h. copy_is c.args.rows.now.entries all.entries c.regrown.ensures.unique h) c.regrown.ensures.rows
