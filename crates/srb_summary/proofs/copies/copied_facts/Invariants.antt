use Rattle.std.proofs.Common.{◌≡◌, take}
use Rattle.srb_summary.proofs.copies.copied_facts.Given as goal

abbrev pub invariant-facts : goal.invariant-facts
invariant-facts l = l.copies ≡ take l.fact-index l.facts
