use Rattle.run_core.proofs.Runs.{run_is_legal_so_far}
use Rattle.run_core.proofs.law.every_run_is_legal_so_far.Goals as goal

pub returns : goal.returns
returns c = run_is_legal_so_far
