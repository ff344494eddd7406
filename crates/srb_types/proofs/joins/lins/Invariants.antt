use Rattle.std.proofs.Common.{◌≡◌, ◌++◌, drop}
use Rattle.srb_shapes.specs.Lineages.{lineage_at}
use Rattle.srb_types.specs.Joined.{lins_of}
use Rattle.srb_types.proofs.joins.lins.Given as goal

abbrev pub invariant-parts : goal.invariant-parts
invariant-parts l = l.lins.items ++ lins_of (lineage_at l.w) (drop l.part-index l.parts) ≡ lins_of (lineage_at l.w) l.parts
