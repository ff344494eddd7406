use Rattle.std.proofs.Common.{◌≡◌, length}
use Rattle.srb_shapes.specs.Lineages.{lineage_at}
use Rattle.srb_types.specs.Normal.{any_after}
use Rattle.srb_types.proofs.joins.any_after.Given as goal

abbrev pub decreases-rest : goal.decreases-rest
decreases-rest l = length l.rest

abbrev pub invariant-rest : goal.invariant-rest
invariant-rest l = any_after (lineage_at l.w) l.union l.rest ≡ any_after (lineage_at l.w) l.fn.so_far l.types
