use Rattle.std.proofs.Common.{refl, arith, []}
use Rattle.run_serve.proofs.Deeds.{no_step}
use Rattle.run_serve.proofs.turning.build.Goals as goal

pub returns-in-Err-step-clause-goes : goal.returns-in-Err-step-clause-goes
returns-in-Err-step-clause-goes g c = λ held. no_step _ [] _ _ (omega arith) c.in-Err-step.ensures refl

pub returns-in-Err-clause-goes : goal.returns-in-Err-clause-goes
returns-in-Err-clause-goes g c = λ held. no_step _ [] _ _ (omega arith) refl refl
