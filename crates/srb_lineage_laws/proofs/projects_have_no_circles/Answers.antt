use Rattle.srb_lineage_laws.proofs.Projects.{facts_apart, tables_apart}
use Rattle.srb_lineage_laws.proofs.projects_have_no_circles.Goals as goal

pub returns-clause-facts : goal.returns-clause-facts
returns-clause-facts c = facts_apart

pub returns-clause-tables : goal.returns-clause-tables
returns-clause-tables c = tables_apart
