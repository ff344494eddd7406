use Rattle.std.proofs.Common.{◌≡◌, drop}
use Rattle.srb_shapes.specs.Lineages.{lineage_at}
use Rattle.srb_types.specs.Normal.{with_names}
use Rattle.srb_types.proofs.names.with_names.Given as goal

abbrev pub invariant-more : goal.invariant-more
invariant-more l =
    with_names (lineage_at l.w) l.all.items (drop l.name-index l.more) ≡ with_names (lineage_at l.w) l.fn.names.items l.more
