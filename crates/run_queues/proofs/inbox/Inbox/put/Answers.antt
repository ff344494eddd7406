use Rattle.run_queues.proofs.InOrder.{sends}
use Rattle.run_queues.proofs.inbox.Inbox.put.Goals as goal

pub push_as-requires-clause-rule : goal.push_as-requires-clause-rule
push_as-requires-clause-rule g c = λ n. sends n _ _ _ c.p.invariant.2
