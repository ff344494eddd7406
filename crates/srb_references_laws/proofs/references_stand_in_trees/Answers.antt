use Rattle.srb_references_laws.proofs.Examples.{front-is-a-place}
use Rattle.srb_references_laws.proofs.Trees.{references-in-trees}
use Rattle.srb_references_laws.proofs.references_stand_in_trees.Goals as goal

pub returns-clause-trees : goal.returns-clause-trees
returns-clause-trees c = references-in-trees

pub returns-clause-front : goal.returns-clause-front
returns-clause-front c = front-is-a-place
