use Rattle.std.proofs.Common.{◌≡◌, drop}
use Rattle.std.specs.List.{find}
use Rattle.srb_calls.specs.Counts as spec
use Rattle.srb_calls.proofs.keywords.first_keyword.Given as goal

abbrev pub invariant-params : goal.invariant-params
invariant-params l =
    find (spec.is_keyword l.name) (drop l.p-index l.params) ≡ find (spec.is_keyword l.name) l.params
