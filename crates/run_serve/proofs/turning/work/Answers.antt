use Rattle.std.proofs.Common.{refl, arith, []}
use Rattle.run_serve.proofs.Deeds.{no_step}
use Rattle.run_serve.proofs.Owed.{on_ok, owed_lands}
use Rattle.run_serve.proofs.Rounds.{landed_one, works_landing}
use Rattle.run_serve.proofs.turning.work.Goals as goal

pub returns-in-Ok-clause-works : goal.returns-in-Ok-clause-works
returns-in-Ok-clause-works g c = works_landing c.tell_landed.result _ _ c.in-Ok.landed _ _ _ _ c.in-Ok.ensures.lands c.tell_landed.ensures.tells

pub returns-in-Ok-clause-one : goal.returns-in-Ok-clause-one
returns-in-Ok-clause-one g c = landed_one c.tell_landed.result _ _ c.in-Ok.landed _ _ _ _ c.in-Ok.ensures.lands c.tell_landed.ensures.tells

pub returns-in-Ok-clause-owed : goal.returns-in-Ok-clause-owed
returns-in-Ok-clause-owed g c = λ whole. on_ok c.tell_landed.result (owed_lands _ _ c.in-Ok.landed c.in-Ok.ensures.lands whole)

pub returns-in-Err-clause-works : goal.returns-in-Err-clause-works
returns-in-Err-clause-works g c = (no_step _ [] _ _ (omega arith) refl refl, refl)
