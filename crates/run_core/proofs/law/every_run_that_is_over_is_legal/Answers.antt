use Rattle.run_core.proofs.Runs.{run_is_legal}
use Rattle.run_core.proofs.law.every_run_that_is_over_is_legal.Goals as goal

pub returns : goal.returns
returns c = run_is_legal
