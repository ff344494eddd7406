-- Files that declare the same give the same facts.
use Rattle.std.proofs.Common.{ap, subst}
use Rattle.srb_builtin.specs.Table.{built_in}
use Rattle.srb_rules.specs.Standing.{Stands}
use Rattle.srb_table.specs.Steps.{facts_of}
use Rattle.srb_check.specs.Checks.{errors_of}
use Rattle.srb_check.specs.Symbols.{project_facts}
use Rattle.srb_check_laws.specs.Summaries.{SummariesGiveErrors, SummariesGiveFacts, SummariesGiveTables}

pub same-facts : SummariesGiveFacts
unfolding project_facts
same-facts p q same = ap (facts_of built_in) same

pub same-tables : SummariesGiveTables
same-tables p q w same stands = subst (Stands w) (same-facts p q same) stands

pub same-errors : SummariesGiveErrors
same-errors p q bytes same = ap (λ facts. errors_of facts bytes) (same-facts p q same)
