use Rattle.std.proofs.Common.{◌≡◌, [], drop}
use Rattle.srb_shapes.specs.Lineages.{lineage_at}
use Rattle.srb_calls.specs.Blocks as spec
use Rattle.srb_calls.proofs.blocks.gives.Given as goal

abbrev pub invariant-params : goal.invariant-params
invariant-params l =
    spec.gives (lineage_at l.w) l.part l.positional l.given (drop l.p-index l.params)
    ≡ spec.gives (lineage_at l.w) l.part l.positional [] l.params
