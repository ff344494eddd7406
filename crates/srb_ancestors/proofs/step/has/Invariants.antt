use Rattle.std.proofs.Common.{◌≡◌, drop}
use Rattle.srb_terms.specs.NameSets.{has_name}
use Rattle.srb_ancestors.proofs.step.has.Given as goal

abbrev pub invariant-names : goal.invariant-names
invariant-names l = has_name l.name (drop l.other-index l.names) ≡ has_name l.name l.names
