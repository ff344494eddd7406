use Rattle.std.proofs.Common.{◌≡◌, ◌∙◌, ap, sym, subst}
use Rattle.run_queues.specs.declared.heard.Mail.{Mail}
use Rattle.run_queues.specs.Deliveries.{IsFront, after_empty}
use Rattle.run_queues.proofs.InOrder.{gets, learns, notes, empty_front}
use Rattle.run_queues.proofs.inbox.hear.Goals as goal

pub pop_as-requires-clause-rule : goal.pop_as-requires-clause-rule
pop_as-requires-clause-rule g c = (gets _ _ c.requires.1, learns _ _)

pub another-requires-clause-rule : goal.another-requires-clause-rule
another-requires-clause-rule g c = notes _ _ (ap (λ (v : Mail). v.takes) c.in-None.ensures.rule.0 ∙ c.requires.1)

pub returns-in-None-clause-front : goal.returns-in-None-clause-front
returns-in-None-clause-front g c =
    let v : Mail = c.args.knowing.now.me.view.client in
    let is : c.another.new.pass.me.view.client ≡ after_empty v = c.another.ensures.rule.0 ∙ ap after_empty c.in-None.ensures.rule.0 in
    λ may. subst (λ (w : Mail). IsFront w.heard w.sent) (sym is) (empty_front v (sym (ap (λ (w : Mail). w.puts) is) ∙ may) c.requires.1 c.in-None.ensures.rule.1)
