use Rattle.std.proofs.Common.{refl, arith, []}
use Rattle.run_serve.proofs.Deeds.{no_step}
use Rattle.run_serve.proofs.Rounds.{replies, tells_one}
use Rattle.run_serve.proofs.turning.settle.Goals as goal

pub returns-in-Ok-clause-works : goal.returns-in-Ok-clause-works
returns-in-Ok-clause-works g c = replies c.tell.result _ _ c.in-Ok.out _ _ _ _ c.in-Ok.ensures.makes c.tell.ensures

pub returns-in-Err-clause-works : goal.returns-in-Err-clause-works
returns-in-Err-clause-works g c = (no_step _ [] _ _ (omega arith) refl refl, refl)
