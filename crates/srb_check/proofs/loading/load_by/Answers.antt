use Rattle.std.proofs.Common.{ap, ◌∙◌, arith}
use Rattle.srb_check.specs.Records.{unread}
use Rattle.srb_check.proofs.Loads.{loaded_large, record_along}
use Rattle.srb_check.proofs.loading.load_by.Goals as goal

pub returns-in_ok-too_large : goal.returns-in_ok-too_large
returns-in_ok-too_large c =
    record_along c.unread.result _ _
    (ap unread c.in_ok-too_large.ensures ∙ loaded_large c.args.bytes.now (omega (arith, c.if-bytes-gt-LARGEST_FILE.true)))
    c.unread.ensures
