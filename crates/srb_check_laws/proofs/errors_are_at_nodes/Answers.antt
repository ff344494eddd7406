use Rattle.srb_check_laws.proofs.ErrorPlaces.{errors-in-trees, files-err-in-trees, nodes-in-trees, type-errors-at-nodes}
use Rattle.srb_check_laws.proofs.PlacedExamples.{operator-is-a-place, short-errs-in-its-tree}
use Rattle.srb_check_laws.proofs.errors_are_at_nodes.Goals as goal

pub returns-clause-files : goal.returns-clause-files
returns-clause-files c = files-err-in-trees

pub returns-clause-programs : goal.returns-clause-programs
returns-clause-programs c = errors-in-trees

pub returns-clause-types : goal.returns-clause-types
returns-clause-types c = type-errors-at-nodes

pub returns-clause-among : goal.returns-clause-among
returns-clause-among c = nodes-in-trees

pub returns-clause-operator : goal.returns-clause-operator
returns-clause-operator c = operator-is-a-place

pub returns-clause-short : goal.returns-clause-short
returns-clause-short c = short-errs-in-its-tree
