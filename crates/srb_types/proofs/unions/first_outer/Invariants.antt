use Rattle.std.proofs.Common.{◌≡◌, length}
use Rattle.srb_shapes.specs.Lineages.{lineage_at}
use Rattle.srb_types.specs.Normal.{with_parts}
use Rattle.srb_types.proofs.unions.first_outer.Given as goal

abbrev pub decreases-rest : goal.decreases-rest
decreases-rest l = length l.rest

abbrev pub invariant-rest : goal.invariant-rest
invariant-rest l = with_parts (lineage_at l.w) l.parts l.rest ≡ with_parts (lineage_at l.w) l.parts l.more
