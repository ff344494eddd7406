use Rattle.std.proofs.Common.{◌≡◌, ◌+◌, drop}
use Rattle.srb_walk_calls.specs.Fronts.{constants_before}
use Rattle.srb_walk_calls.proofs.rows.constants.Given as goal

abbrev pub invariant-suffixes : goal.invariant-suffixes
invariant-suffixes l = record {
  counted : l.count ≡ l.suffix-index;
  left : l.count + constants_before (drop l.suffix-index l.suffixes) ≡ constants_before l.suffixes;
}
