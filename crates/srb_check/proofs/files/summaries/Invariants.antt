use Rattle.std.proofs.Common.{◌≡◌, map, take}
use Rattle.srb_check.specs.Jobs.{summary_of}
use Rattle.srb_check.proofs.files.summaries.Given as goal

abbrev pub invariant-records : goal.invariant-records
invariant-records l = l.list.items ≡ map summary_of (take l.record-index l.records)
