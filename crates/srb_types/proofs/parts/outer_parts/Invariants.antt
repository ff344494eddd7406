use Rattle.std.proofs.Common.{◌≡◌, ◌++◌, not, drop}
use Rattle.std.specs.List.{filter}
use Rattle.srb_shapes.specs.Comparing.{lies_in}
use Rattle.srb_shapes.specs.Lineages.{lineage_at}
use Rattle.srb_types.proofs.parts.outer_parts.Given as goal

abbrev pub invariant-parts : goal.invariant-parts
invariant-parts l =
    l.rest.items ++ filter (λ q. not (lies_in (lineage_at l.w) q l.p)) (drop l.part-index l.parts)
    ≡ filter (λ q. not (lies_in (lineage_at l.w) q l.p)) l.parts
