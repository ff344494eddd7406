use Rattle.std.proofs.Common.{List, ℕ}
use Rattle.std.proofs.lemmas.Result.{IfOk-weaker}
use Rattle.srb_cli.proofs.GeneratedSteps.{summary_written}
use Rattle.srb_cli.proofs.generating.summary_of.Goals as goal

pub returns : goal.returns
returns c =
    IfOk-weaker c.summary_bytes.result _ _
    (λ bytes wrote. summary_written c.args.count c.args.steps.now c.from.result c.edits_in.result c.in_ok-errors.errors bytes.items c.requires.few c.requires.steps c.edits_in.ensures
    c.in_ok-errors.ensures c.from.ensures wrote) c.summary_bytes.ensures
