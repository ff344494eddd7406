use Rattle.std.proofs.Common.{◌≡◌, ◌++◌, not, drop}
use Rattle.std.specs.List.{filter}
use Rattle.srb_shapes.specs.Comparing.{is_sub_of}
use Rattle.srb_shapes.specs.Lineages.{lineage_at}
use Rattle.srb_types.proofs.unions.parts_beside.Given as goal

abbrev pub invariant-parts : goal.invariant-parts
invariant-parts l =
    l.rest.items ++ filter (λ p. not (is_sub_of (lineage_at l.w) p l.b)) (drop l.part-index l.parts)
    ≡ filter (λ p. not (is_sub_of (lineage_at l.w) p l.b)) l.parts
