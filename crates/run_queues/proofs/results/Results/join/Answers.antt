use Rattle.run_queues.proofs.Rules.{joins}
use Rattle.run_queues.proofs.results.Results.join.Goals as goal

pub absorb-requires-clause-rule : goal.absorb-requires-clause-rule
absorb-requires-clause-rule g c = joins g.W.Right.right _ _ _ _ c.p.invariant.1
