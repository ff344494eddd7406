use Rattle.run_core.specs.Runs.{last_state}
use Rattle.run_core.proofs.Landing.{owed_asked, stale_or_work}
use Rattle.run_core.proofs.law.owed_files_are_asked_for.Goals as goal

pub returns-clause-asked : goal.returns-clause-asked
returns-clause-asked c = λ language base steps f built owed. owed_asked language base steps built f owed

pub returns-clause-stale : goal.returns-clause-stale
returns-clause-stale c = λ language base steps look rest none.
    stale_or_work (last_state language base steps) (owed_asked language base steps) look rest none
