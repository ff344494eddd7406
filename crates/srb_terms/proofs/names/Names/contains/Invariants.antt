use Rattle.std.proofs.Common.{◌≡◌}
use Rattle.srb_terms.specs.NameSets.{has_name}
use Rattle.srb_terms.proofs.names.Names.contains.Given as goal

abbrev pub invariant-loop-first : goal.invariant-loop-first
invariant-loop-first l = has_name l.fn.name l.at ≡ has_name l.fn.name l.fn.self
