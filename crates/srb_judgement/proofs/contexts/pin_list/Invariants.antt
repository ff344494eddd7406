use Rattle.std.proofs.Common.{◌≡◌, ℕ, List, length}
use Rattle.srb_judgement.specs.Kept.{own_pin}
use Rattle.srb_judgement.specs.Steps.{pinned_after}
use Rattle.srb_judgement.specs.Views.{seen_rows}
use Rattle.srb_judgement.proofs.contexts.pin_list.Given as goal

abbrev pub invariant-names : goal.invariant-names
invariant-names g l =
    (other : List ℕ) →
    pinned_after (g.L.Language.the l.language) (seen_rows l.rows.entries) l.at other (own_pin l.layer other)
    ≡ pinned_after (g.L.Language.the l.language) (seen_rows l.rows.entries) l.names other (own_pin l.fn.layer other)

abbrev pub decreases-names : goal.decreases-names
decreases-names g l = length l.at
