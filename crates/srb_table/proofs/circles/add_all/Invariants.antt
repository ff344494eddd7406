use Rattle.std.proofs.Common.{◌≡◌, ℕ, List, bytes_eq, drop}
use Rattle.std.specs.List.{fold}
use Rattle.indexmap.specs.IndexMap.{get}
use Rattle.srb_table.specs.Circular.{circle_after}
use Rattle.srb_table.proofs.circles.add_all.Given as goal

abbrev pub invariant-links : goal.invariant-links
invariant-links l =
    (c : List ℕ) → fold (circle_after c) (get bytes_eq l.table c) (drop l.link-index l.links) ≡ fold (circle_after c) (get bytes_eq l.fn.table c) l.links
