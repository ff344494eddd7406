use Rattle.run_core.proofs.KeptFacts.{checked_is_language}
use Rattle.run_core.proofs.law.what_is_checked_is_a_language.Goals as goal

pub returns : goal.returns
returns c = checked_is_language
