use Rattle.run_core.proofs.Legality.{legal_part, legal_stays}
use Rattle.run_core.proofs.law.legality_lasts.Goals as goal

pub returns-clause-parts : goal.returns-clause-parts
returns-clause-parts c = legal_part

pub returns-clause-after : goal.returns-clause-after
returns-clause-after c = legal_stays
