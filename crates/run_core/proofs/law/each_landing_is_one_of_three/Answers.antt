use Rattle.run_core.proofs.Landing.{landing, waiting_apart}
use Rattle.run_core.proofs.law.each_landing_is_one_of_three.Goals as goal

pub returns-clause-all : goal.returns-clause-all
returns-clause-all c = landing

pub returns-clause-apart : goal.returns-clause-apart
returns-clause-apart c = waiting_apart
