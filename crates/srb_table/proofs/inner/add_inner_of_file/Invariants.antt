use Rattle.std.proofs.Common.{◌≡◌, ℕ, List, false, drop}
use Rattle.std.specs.List.{fold}
use Rattle.srb_table.specs.Steps.{inner_after}
use Rattle.srb_terms.specs.Worlds.{has_colon, inner_at, joined}
use Rattle.srb_table.proofs.inner.add_inner_of_file.Given as goal

abbrev pub invariant-facts : goal.invariant-facts
invariant-facts l =
    (scope last : List ℕ) → has_colon last ≡ false
    → fold (inner_after (joined scope last)) (inner_at scope last l.table.entries) (drop l.fact-index l.facts) ≡ fold (inner_after (joined scope last)) (inner_at scope last l.fn.table.entries) l.facts
