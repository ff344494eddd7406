use Rattle.std.proofs.Common.{◌≡◌}
use Rattle.srb_check.specs.Reports.{place_of}
use Rattle.srb_check.proofs.place.place_from.Given as goal

abbrev pub invariant-loop-at : goal.invariant-loop-at
invariant-loop-at l = l.place ≡ place_of l.bytes l.at
