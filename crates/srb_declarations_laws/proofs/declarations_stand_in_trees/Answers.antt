use Rattle.srb_declarations_laws.proofs.Examples.{labelled-is-a-place}
use Rattle.srb_declarations_laws.proofs.Places.{declarations-in-trees}
use Rattle.srb_declarations_laws.proofs.declarations_stand_in_trees.Goals as goal

pub returns-clause-trees : goal.returns-clause-trees
returns-clause-trees c = declarations-in-trees

pub returns-clause-labelled : goal.returns-clause-labelled
returns-clause-labelled c = labelled-is-a-place
