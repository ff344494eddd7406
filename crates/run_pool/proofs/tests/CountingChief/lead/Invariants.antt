use Rattle.std.proofs.Common.{◌≡◌, ◌+◌, ◌≤◌, ◌++◌, List, length}
use Rattle.run_queues.specs.declared.item.Item.{Item}
use Rattle.run_pool.proofs.tests.CountingChief.lead.Given as goal

abbrev pub invariant-polls : goal.invariant-polls
invariant-polls g l = record {
  seat : (l.seat.gate ≡ l.initial.seat.gate) × (l.seat.drawn ≡ l.initial.seat.drawn) × (l.seat.raised ≡ l.initial.seat.raised) × (l.seat.left ≡ l.initial.seat.left);
  pass : (l.pass.queue ≡ l.initial.pass.queue) × (l.pass.view ≡ l.initial.pass.view) × (l.pass.gave ≡ l.initial.pass.gave);
  got : (more : List Item) × (l.pass.got ≡ l.initial.pass.got ++ more) × (length more ≡ l.taken);
  left : l.pass.left + l.taken ≡ l.initial.pass.left;
  most : l.taken ≤ l.wanted;
}
