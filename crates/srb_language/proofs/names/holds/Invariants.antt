use Rattle.std.proofs.Common.{◌≡◌}
use Rattle.srb_terms.specs.NameSets.{has_name}
use Rattle.srb_language.proofs.names.holds.Given as goal

abbrev pub invariant-at : goal.invariant-at
invariant-at l = has_name l.text l.at ≡ has_name l.fn.text l.fn.names
