use Rattle.std.proofs.Common.{ℕ, List, bytes_eq, drop}
use Rattle.indexmap.specs.IndexMap.{get}
use Rattle.srb_ancestors.specs.Placing.{IsMade}
use Rattle.srb_ancestors.specs.Ways.{HasEnd}
use Rattle.srb_ancestors.proofs.linearization.have_lists.Given as goal

-- an end that has been passed has a list
abbrev pub invariant-links : goal.invariant-links
invariant-links l = (d : List ℕ) → (HasEnd (drop l.link-index l.row) d → IsMade (get bytes_eq l.lists) d) → HasEnd l.row d → IsMade (get bytes_eq l.lists) d
