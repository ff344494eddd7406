use Rattle.std.proofs.Common.{◌≡◌, drop}
use Rattle.srb_shapes.specs.Lineages.{lineage_at}
use Rattle.srb_types.specs.Joined.{lins_of}
use Rattle.srb_types.specs.Normal.{with_parts}
use Rattle.srb_types.proofs.joins.add_parts.Given as goal

abbrev pub invariant-more : goal.invariant-more
invariant-more l =
    (with_parts (lineage_at l.w) l.parts.items (drop l.p-index l.more) ≡ with_parts (lineage_at l.w) l.fn.parts.items l.more)
    × (l.lins.items ≡ lins_of (lineage_at l.w) l.parts.items)
