use Rattle.std.proofs.Common.{◌≡◌, ◌≤◌, length}
use Rattle.srb_shapes.specs.Lineages.{lineage_at}
use Rattle.srb_shapes.specs.Parts.{of_parts}
use Rattle.srb_types.specs.Joined.{lins_of}
use Rattle.srb_types.specs.Normal.{any_after}
use Rattle.srb_types.proofs.joins.many.Given as goal

abbrev pub decreases-rest : goal.decreases-rest
decreases-rest l = length l.rest

abbrev pub invariant-rest : goal.invariant-rest
invariant-rest l =
    (any_after (lineage_at l.w) (of_parts l.parts.items) l.rest ≡ any_after (lineage_at l.w) (of_parts l.fn.parts.items) l.types)
    × (length l.rest ≤ length l.types)
    × (l.lins.items ≡ lins_of (lineage_at l.w) l.parts.items)
