use Rattle.std.proofs.Common.{◌≡◌, ℕ, List, bytes_eq, true, drop}
use Rattle.indexmap.specs.IndexSet.{contains}
use Rattle.srb_ancestors.specs.Ways.{HasEnd}
use Rattle.srb_ancestors.proofs.settled.are_settled.Given as goal

-- an end that has been passed is settled
abbrev pub invariant-links : goal.invariant-links
invariant-links l = (d : List ℕ) → (HasEnd (drop l.link-index l.row) d → contains bytes_eq l.settled d ≡ true) → HasEnd l.row d → contains bytes_eq l.settled d ≡ true
