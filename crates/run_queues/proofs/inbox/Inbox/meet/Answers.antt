use Rattle.std.proofs.Common.{ap}
use Rattle.run_queues.specs.declared.heard.Mail.{Mail}
use Rattle.run_queues.proofs.InOrder.{joins, lies}
use Rattle.run_queues.proofs.inbox.Inbox.meet.Goals as goal

pub absorb-requires-clause-rule : goal.absorb-requires-clause-rule
absorb-requires-clause-rule g c = joins _ _ _ _ c.q.invariant.2 c.p.invariant.2

pub len_as-requires-clause-rule : goal.len_as-requires-clause-rule
len_as-requires-clause-rule g c = let is = c.absorb.ensures.rule in lies _ _ (ap (λ (v : Mail). v.puts) is) (ap (λ (v : Mail). v.takes) is)
