use Rattle.std.proofs.Common.{◌≡◌, drop}
use Rattle.srb_calls.specs.Counts as spec
use Rattle.srb_calls.proofs.counts.unknown.Given as goal

abbrev pub invariant-keys : goal.invariant-keys
invariant-keys l =
    spec.unknown l.params (drop l.k-index l.keys) ≡ spec.unknown l.params l.keys
