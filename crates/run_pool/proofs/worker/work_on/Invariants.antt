use Rattle.run_pool.proofs.Rounds.{HasGiven}
use Rattle.run_pool.proofs.worker.work_on.Given as goal

abbrev pub invariant-rounds : goal.invariant-rounds
invariant-rounds g l = HasGiven l.job l.initial.seat l.seat l.initial.pass l.pass
