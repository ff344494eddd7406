use Rattle.std.proofs.Common.{refl}
use Rattle.srb_rules.specs.Conflicts.{conflict_of, conflicts_of}
use Rattle.srb_rules.specs.Kinds.{kind_of}
use Rattle.srb_rules.specs.Lin.{lin_of}
use Rattle.srb_rules.specs.Parents.{deciding, extended_of, inherited, links, mixed_in, superclass_of}
use Rattle.srb_rules.specs.Resolves.{lin_in, resolves}
use Rattle.srb_rules.specs.Values.{value_type}
use Rattle.srb_rules_laws.proofs.kinds_are_decided.Goals as goal

pub returns-clause-first : goal.returns-clause-first
unfolding conflict_of conflicts_of kind_of lin_of deciding extended_of inherited links mixed_in superclass_of lin_in resolves value_type
returns-clause-first c = (refl, refl, refl, refl)

pub returns-clause-late : goal.returns-clause-late
unfolding conflict_of conflicts_of kind_of lin_of deciding extended_of inherited links mixed_in superclass_of lin_in resolves value_type
returns-clause-late c = (refl, refl, refl)
