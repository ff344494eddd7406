use Rattle.std.proofs.Common.{◌≡◌}
use Rattle.srb_terms.specs.Worlds.{kind_at}
use Rattle.srb_conflicts.specs.Tables.{first_class}
use Rattle.srb_conflicts.proofs.known.first_class.Given as goal

abbrev pub invariant-names : goal.invariant-names
invariant-names l = first_class (kind_at l.world) l.at ≡ first_class (kind_at l.fn.world) l.fn.names
