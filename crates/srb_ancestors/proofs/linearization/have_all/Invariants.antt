use Rattle.std.proofs.Common.{◌≡◌, ◌<◌, ℕ, List, Some, slice_get, bytes_eq}
use Rattle.indexmap.specs.IndexMap.{get}
use Rattle.srb_rules.specs.declared.link.Link.{Link}
use Rattle.srb_ancestors.specs.Placing.{IsMade}
use Rattle.srb_ancestors.proofs.linearization.have_all.Given as goal

abbrev pub invariant-rows : goal.invariant-rows
invariant-rows l = (j : ℕ) (name : List ℕ) (row : List Link) → j < l.index → slice_get l.rows.entries j ≡ Some (name, row) → IsMade (get bytes_eq l.lists) name
