use Rattle.run_core.proofs.Ordering.{owed_first}
use Rattle.run_core.proofs.law.owed_files_go_first.Goals as goal

pub returns : goal.returns
returns c = λ language base before after f g epoch list shown run owed. owed_first language base before g epoch list shown after run f owed
