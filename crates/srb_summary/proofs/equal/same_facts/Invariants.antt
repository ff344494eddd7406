use Rattle.std.proofs.Common.{◌≡◌, take, length}
use Rattle.srb_summary.proofs.equal.same_facts.Given as goal

abbrev pub invariant-facts : goal.invariant-facts
invariant-facts l = record { as_long : length l.a ≡ length l.b; so_far : take l.index l.a ≡ take l.index l.b }
