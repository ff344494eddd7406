use Rattle.std.proofs.Common.{◌≡◌, drop}
use Rattle.std.specs.List.{list_any}
use Rattle.srb_shapes.specs.Lineages.{lineage_at}
use Rattle.srb_types.specs.Normal.{is_under}
use Rattle.srb_types.proofs.names.is_under_one.Given as goal

abbrev pub invariant-names : goal.invariant-names
invariant-names l =
    list_any (λ d. is_under (lineage_at l.w) d l.c) (drop l.name-index l.names) ≡ list_any (λ d. is_under (lineage_at l.w) d l.c) l.names
