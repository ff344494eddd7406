use Rattle.std.proofs.Common.{◌≡◌, drop}
use Rattle.srb_terms.specs.NameSets.{has_name}
use Rattle.srb_types.proofs.showing.has.Given as goal

abbrev pub invariant-texts : goal.invariant-texts
invariant-texts l = has_name l.name (drop l.t-index l.texts) ≡ has_name l.name l.texts
