use Rattle.srb_references_laws.proofs.Examples.{malformed-is-a-place}
use Rattle.srb_references_laws.proofs.Trees.{malformed-in-trees}
use Rattle.srb_references_laws.proofs.malformed_types_stand_in_trees.Goals as goal

pub returns-clause-trees : goal.returns-clause-trees
returns-clause-trees c = malformed-in-trees

pub returns-clause-one : goal.returns-clause-one
returns-clause-one c = malformed-is-a-place
