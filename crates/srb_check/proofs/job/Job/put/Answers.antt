use Rattle.std.proofs.Common.{◌≡◌, sym, ap, subst, ◌∙◌, arith}
use Rattle.std.specs.Prelude.{Some}
use Rattle.std.specs.List.{slice_get, slice_set}
use Rattle.srb_check.specs.Jobs.{AreRecords, Known}
use Rattle.srb_check.proofs.Jobs.{AreRecords-set, job_put}
use Rattle.srb_check.proofs.job.Job.put.Goals as goal

pub invariant_of-self : goal.invariant_of-self
invariant_of-self c =
    subst AreRecords (sym c.set.ensures) (AreRecords-set c.self.inside.records c.place-index.result c.args.file c.self.invariant c.requires)

pub returns-clause-put : goal.returns-clause-put
returns-clause-put c =
    λ project bytes ordered known loads facts yes.
    let i = c.place-index.result in
    let view = c.self.view_is in
    let here = ap (λ paths. slice_get paths i) (ap (λ (k : Known). k.files.paths) (sym view) ∙ sym c.as_slice-else-index-len.ensures)
    ∙ c.stands_at.ensures c.if-not-stands_at.false in
    job_put project c.args.path.now bytes i c.args.file c.args.self.now _ ordered known here loads facts
    (ap (λ records. record { world = c.self.inside.world; files = record { paths = c.self.inside.paths; records = records } }) c.set.ensures
    ∙ ap (λ (k : Known). record k { files = record k.files { records = slice_set k.files.records i c.args.file } }) view)
