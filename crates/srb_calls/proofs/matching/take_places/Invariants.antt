use Rattle.std.proofs.Common.{◌≡◌, drop}
use Rattle.srb_shapes.specs.Lineages.{lineage_at}
use Rattle.srb_calls.specs.Matching as spec
use Rattle.srb_calls.proofs.matching.take_places.Given as goal

abbrev pub invariant-params : goal.invariant-params
invariant-params l =
    spec.places_taken (spec.taken (lineage_at l.w) l.part l.args l.m) (drop l.p-index l.params) l.rest l.errors
    ≡ spec.places_taken (spec.taken (lineage_at l.w) l.part l.args l.m) l.params l.args.positional l.fn.errors
