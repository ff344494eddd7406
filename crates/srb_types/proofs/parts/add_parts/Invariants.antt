use Rattle.std.proofs.Common.{◌≡◌, drop}
use Rattle.srb_shapes.specs.Lineages.{lineage_at}
use Rattle.srb_types.specs.Normal.{with_parts}
use Rattle.srb_types.proofs.parts.add_parts.Given as goal

abbrev pub invariant-more : goal.invariant-more
invariant-more l =
    with_parts (lineage_at l.w) l.parts.items (drop l.p-index l.more) ≡ with_parts (lineage_at l.w) l.fn.parts.items l.more
