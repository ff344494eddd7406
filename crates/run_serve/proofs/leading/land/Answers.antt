use Rattle.std.proofs.Common.{refl, arith, []}
use Rattle.run_serve.proofs.Deeds.{did_nothing, no_step}
use Rattle.run_serve.proofs.Rounds.{works_item}
use Rattle.run_serve.proofs.leading.land.Goals as goal

pub returns-in-Ok-clause-works : goal.returns-in-Ok-clause-works
returns-in-Ok-clause-works g c = works_item c.tell_landed.result _ _ c.in-Ok.ensures.lands.0 c.in-Some.item c.in-Ok.landed _ _ _ _ c.in-Ok.ensures.lands.2 c.tell_landed.ensures.tells

pub returns-in-Err-clause-works : goal.returns-in-Err-clause-works
returns-in-Err-clause-works g c = (no_step _ [] _ _ (omega arith) refl refl, refl)
