use Rattle.std.proofs.Common.{◌≡◌, drop}
use Rattle.srb_calls.specs.Counts as spec
use Rattle.srb_calls.proofs.counts.left_out.Given as goal

abbrev pub invariant-params : goal.invariant-params
invariant-params l =
    spec.left_out l.keys (drop l.p-index l.params) ≡ spec.left_out l.keys l.params
