use Rattle.std.proofs.Common.{◌≡◌, drop}
use Rattle.srb_shapes.specs.Lineages.{lineage_at}
use Rattle.srb_calls.specs.Matching as spec
use Rattle.srb_calls.proofs.matching.take_keys.Given as goal

abbrev pub invariant-keys : goal.invariant-keys
invariant-keys l =
    spec.keys_taken (spec.taken (lineage_at l.w) l.part l.args l.m) l.params (drop l.k-index l.args.keys) l.errors
    ≡ spec.keys_taken (spec.taken (lineage_at l.w) l.part l.args l.m) l.params l.args.keys l.fn.errors
