use Rattle.std.proofs.Common.{◌≡◌, ℕ, List, bytes_eq, None, drop}
use Rattle.indexmap.specs.IndexMap.{get}
use Rattle.srb_ancestors.specs.Rows.{with_links_at}
use Rattle.srb_ancestors.proofs.rows.rows_of.Given as goal

abbrev pub invariant-links : goal.invariant-links
invariant-links l = (c : List ℕ) → with_links_at c (get bytes_eq l.rows c) (drop l.link-index l.links) ≡ with_links_at c None l.links
