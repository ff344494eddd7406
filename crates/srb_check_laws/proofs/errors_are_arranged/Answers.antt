use Rattle.srb_check_laws.proofs.ArrangedExamples.{each-has-its-place, each-is-kept-once}
use Rattle.srb_check_laws.proofs.errors_are_arranged.Goals as goal

pub returns-clause-once : goal.returns-clause-once
returns-clause-once c = each-is-kept-once

pub returns-clause-places : goal.returns-clause-places
returns-clause-places c = each-has-its-place
