use Rattle.std.proofs.Common.{ap}
use Rattle.run_queues.specs.declared.heard.Mail.{Mail}
use Rattle.run_queues.proofs.InOrder.{begins, splits}
use Rattle.run_queues.proofs.inbox.Inbox.new.Goals as goal

pub with_rule-requires : goal.with_rule-requires
with_rule-requires c = begins

pub another-taking-requires-clause-rule : goal.another-taking-requires-clause-rule
another-taking-requires-clause-rule c = let is = c.in_ok-queue.ensures.2 in splits _ _ (ap (λ (v : Mail). v.puts) is) (ap (λ (v : Mail). v.takes) is)
