use Rattle.std.proofs.Common.{refl}
use Rattle.run_serve.proofs.Rounds.{unheard}
use Rattle.run_serve.proofs.turning.hear.Goals as goal

pub returns-in-Err-clause-turns : goal.returns-in-Err-clause-turns
returns-in-Err-clause-turns g c = unheard _ _ _ c.args.pass.now c.take.new.p _ c.requires.none c.in-Err.ensures.heard c.in-Err.ensures.told refl
