use Rattle.std.proofs.Common.{◌≡◌, List, bytes_eq, drop}
use Rattle.std.specs.List.{list_any}
use Rattle.indexmap.specs.IndexMap.{get}
use Rattle.srb_rules.specs.declared.link.Link.{Link}
use Rattle.srb_rules.specs.Links.{leads}
use Rattle.srb_ancestors.specs.Rows.{AreRows}
use Rattle.srb_ancestors.proofs.linearization.some_leads.Given as goal

abbrev pub invariant-links : goal.invariant-links
invariant-links l =
    (ls : List Link) → AreRows ls (get bytes_eq l.rows) → list_any (λ (k : Link). leads ls k.to l.name) (drop l.link-index l.row) ≡ list_any (λ (k : Link). leads ls k.to l.name) l.row
