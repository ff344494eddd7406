use Rattle.run_core.proofs.Shown.{run_is_settled}
use Rattle.run_core.proofs.law.every_run_that_is_over_is_settled.Goals as goal

pub returns : goal.returns
returns c = λ language base steps laws order run over begun. run_is_settled language laws base order steps run over begun
