use Rattle.srb_signatures_laws.proofs.Examples.{name-is-a-place}
use Rattle.srb_signatures_laws.proofs.Places.{signatures-in-trees}
use Rattle.srb_signatures_laws.proofs.signatures_stand_in_trees.Goals as goal

pub returns-clause-trees : goal.returns-clause-trees
returns-clause-trees c = signatures-in-trees

pub returns-clause-name : goal.returns-clause-name
returns-clause-name c = name-is-a-place
