use Rattle.run_core.proofs.Languages.{facts_language}
use Rattle.run_core.proofs.law.facts_make_a_language.Goals as goal

pub returns : goal.returns
returns g c = facts_language
