use Rattle.run_core.proofs.Counting.{works_bound, builds_bound}
use Rattle.run_core.proofs.law.work_is_bounded.Goals as goal

pub returns-clause-works : goal.returns-clause-works
returns-clause-works c = works_bound

pub returns-clause-builds : goal.returns-clause-builds
returns-clause-builds c = builds_bound
