use Rattle.std.proofs.Common.{sym, subst}
use Rattle.srb_check.specs.Jobs.{AreRecords}
use Rattle.srb_check.proofs.Jobs.{AreRecords-push}
use Rattle.srb_check.proofs.files.Files.add_record.Goals as goal

pub invariant_of-self-2 : goal.invariant_of-self-2
invariant_of-self-2 c =
    subst AreRecords (sym c.in_ok-push-2.ensures.ok) (AreRecords-push c.self.inside.records c.args.file c.self.invariant c.requires)
