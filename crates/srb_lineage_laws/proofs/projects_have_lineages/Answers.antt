use Rattle.srb_lineage_laws.proofs.Projects.{facts_give, tables_give}
use Rattle.srb_lineage_laws.proofs.projects_have_lineages.Goals as goal

pub returns-clause-facts : goal.returns-clause-facts
returns-clause-facts c = facts_give

pub returns-clause-tables : goal.returns-clause-tables
returns-clause-tables c = tables_give
