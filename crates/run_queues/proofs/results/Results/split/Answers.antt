use Rattle.run_queues.proofs.Rules.{splits}
use Rattle.run_queues.proofs.results.Results.split.Goals as goal

pub another-requires-clause-rule : goal.another-requires-clause-rule
another-requires-clause-rule g c = splits g.W.Right.right _ _ c.p.invariant.1
