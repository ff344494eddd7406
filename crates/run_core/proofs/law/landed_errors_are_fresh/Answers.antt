use Rattle.run_core.proofs.Landing.{landed_is_fresh}
use Rattle.run_core.proofs.law.landed_errors_are_fresh.Goals as goal

pub returns : goal.returns
returns c = λ language base steps f laws order kept. landed_is_fresh language laws base order steps f kept
