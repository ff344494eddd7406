use Rattle.std.proofs.Common.{refl}
use Rattle.srb_rules.specs.Conflicts.{conflict_of, conflicts_of}
use Rattle.srb_rules.specs.Kinds.{kind_of}
use Rattle.srb_rules.specs.Lin.{lin_of}
use Rattle.srb_rules.specs.Parents.{deciding, extended_of, inherited, links, mixed_in, superclass_of}
use Rattle.srb_rules.specs.Resolves.{lin_in, resolves}
use Rattle.srb_rules.specs.Values.{value_type}
use Rattle.srb_rules_laws.proofs.constants_are_found.Goals as goal

pub returns-clause-bodies : goal.returns-clause-bodies
unfolding conflict_of conflicts_of kind_of lin_of deciding extended_of inherited links mixed_in superclass_of lin_in resolves value_type
returns-clause-bodies c = (refl, refl, refl, refl, refl, refl, refl)

pub returns-clause-paths : goal.returns-clause-paths
unfolding conflict_of conflicts_of kind_of lin_of deciding extended_of inherited links mixed_in superclass_of lin_in resolves value_type
returns-clause-paths c = (refl, refl, refl, refl, refl, refl, refl)

pub returns-clause-object : goal.returns-clause-object
unfolding conflict_of conflicts_of kind_of lin_of deciding extended_of inherited links mixed_in superclass_of lin_in resolves value_type
returns-clause-object c = (refl, refl, refl, refl, refl, refl)

pub returns-clause-types : goal.returns-clause-types
unfolding conflict_of conflicts_of kind_of lin_of deciding extended_of inherited links mixed_in superclass_of lin_in resolves value_type
returns-clause-types c = (refl, refl, refl, refl)
