use Rattle.std.proofs.Common.{◌≡◌, [], drop}
use Rattle.srb_shapes.specs.Lineages.{lineage_at}
use Rattle.srb_calls.specs.Blocks as spec
use Rattle.srb_calls.proofs.blocks.each_either.Given as goal

abbrev pub invariant-types : goal.invariant-types
invariant-types l =
    spec.each_either (lineage_at l.w) l.joined (drop l.t-index l.a) l.rest ≡ spec.each_either (lineage_at l.w) [] l.a l.b
