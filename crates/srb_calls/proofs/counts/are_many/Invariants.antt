use Rattle.std.proofs.Common.{◌≡◌, drop}
use Rattle.srb_calls.specs.Counts as spec
use Rattle.srb_calls.proofs.counts.are_many.Given as goal

abbrev pub invariant-params : goal.invariant-params
invariant-params l =
    spec.are_many (drop l.p-index l.params) l.left ≡ spec.are_many l.params l.fn.count
