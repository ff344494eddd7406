use Rattle.srb_check_laws.proofs.SameFacts.{same-errors, same-facts, same-tables}
use Rattle.srb_check_laws.proofs.equal_summaries_are_equal_facts.Goals as goal

pub returns-clause-facts : goal.returns-clause-facts
returns-clause-facts c = same-facts

pub returns-clause-tables : goal.returns-clause-tables
returns-clause-tables c = same-tables

pub returns-clause-errors : goal.returns-clause-errors
returns-clause-errors c = same-errors
