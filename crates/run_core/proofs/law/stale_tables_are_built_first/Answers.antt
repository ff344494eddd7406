use Rattle.run_core.proofs.Ordering.{builds_where_stale, works_where_built}
use Rattle.run_core.proofs.law.stale_tables_are_built_first.Goals as goal

pub returns-clause-builds : goal.returns-clause-builds
returns-clause-builds c = builds_where_stale

pub returns-clause-works : goal.returns-clause-works
returns-clause-works c = λ language base before after f epoch list shown run stale.
    works_where_built language base before f epoch list shown after run stale
