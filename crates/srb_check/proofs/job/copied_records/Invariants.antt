use Rattle.std.proofs.Common.{◌≡◌, take}
use Rattle.srb_check.proofs.job.copied_records.Given as goal

abbrev pub invariant-records : goal.invariant-records
invariant-records l = l.list.items ≡ take l.record-index l.records
