use Rattle.run_queues.proofs.Rules.{hears}
use Rattle.run_queues.proofs.results.take_view.Goals as goal

pub try_pop_as-requires-clause-rule : goal.try_pop_as-requires-clause-rule
try_pop_as-requires-clause-rule g c = hears g.W.Right.right _ _ c.requires.1
