use Rattle.std.proofs.Common.{◌≡◌, drop}
use Rattle.srb_terms.specs.NameSets.{has_name}
use Rattle.srb_judgement.proofs.blocks.is_among.Given as goal

abbrev pub invariant-names : goal.invariant-names
invariant-names l = has_name l.name (drop l.one-index l.names) ≡ has_name l.name l.names
