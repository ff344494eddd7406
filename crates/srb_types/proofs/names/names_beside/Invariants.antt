use Rattle.std.proofs.Common.{◌≡◌, ◌++◌, not, drop}
use Rattle.std.specs.List.{filter}
use Rattle.srb_shapes.specs.Lineages.{lineage_at}
use Rattle.srb_types.specs.Normal.{is_under}
use Rattle.srb_types.proofs.names.names_beside.Given as goal

abbrev pub invariant-names : goal.invariant-names
invariant-names l =
    l.rest.items ++ filter (λ d. not (is_under (lineage_at l.w) l.c d)) (drop l.name-index l.names)
    ≡ filter (λ d. not (is_under (lineage_at l.w) l.c d)) l.names
