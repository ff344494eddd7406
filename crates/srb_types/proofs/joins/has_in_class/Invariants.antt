use Rattle.std.proofs.Common.{◌≡◌, ◌≤◌, ◌-◌, length, drop}
use Rattle.std.specs.List.{list_any}
use Rattle.srb_shapes.specs.Comparing.{lies_in}
use Rattle.srb_shapes.specs.Lineages.{lineage_at}
use Rattle.srb_types.proofs.joins.has_in_class.Given as goal

abbrev pub decreases-parts : goal.decreases-parts
decreases-parts l = length l.parts - l.at

abbrev pub invariant-parts : goal.invariant-parts
invariant-parts l =
    (l.at ≤ length l.parts)
    × (list_any (λ q. lies_in (lineage_at l.w) q l.p) (drop l.at l.parts) ≡ list_any (λ q. lies_in (lineage_at l.w) q l.p) l.parts)
