use Rattle.std.proofs.Common.{◌≡◌, drop}
use Rattle.std.specs.List.{list_all}
use Rattle.srb_references.specs.Readings.{is_call}
use Rattle.srb_references.proofs.taken.all_calls.Given as goal

abbrev pub invariant-loop-suffix : goal.invariant-loop-suffix
invariant-loop-suffix l = list_all is_call (drop l.suffix-index l.suffixes) ≡ list_all is_call l.suffixes
