use Rattle.std.proofs.Common.{sym, subst, ◌∙◌}
use Rattle.srb_check.specs.Jobs.{IsLoaded}
use Rattle.srb_check.proofs.Jobs.{loaded_at}
use Rattle.srb_check.proofs.job.Job.record.Goals as goal

pub returns-then-has_bytes : goal.returns-then-has_bytes
returns-then-has_bytes c =
    sym c.get-2.ensures
    ∙ c.has_bytes.ensures (subst IsLoaded (sym c.get-2.ensures) (loaded_at _ _ _ c.self.invariant (sym c.in_ok-record.ensures))) c.if-has_bytes.true
