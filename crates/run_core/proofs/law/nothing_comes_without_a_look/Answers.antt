use Rattle.run_core.proofs.Ordering.{looks_first}
use Rattle.run_core.proofs.law.nothing_comes_without_a_look.Goals as goal

pub returns : goal.returns
returns c = λ language base before after step run own. looks_first language base before step after run own
