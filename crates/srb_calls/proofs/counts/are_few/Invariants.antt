use Rattle.std.proofs.Common.{◌≡◌, drop}
use Rattle.srb_calls.specs.Counts as spec
use Rattle.srb_calls.proofs.counts.are_few.Given as goal

abbrev pub invariant-params : goal.invariant-params
invariant-params l =
    spec.are_few (drop l.p-index l.params) l.left ≡ spec.are_few l.params l.fn.count
