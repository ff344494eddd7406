use Rattle.run_queues.proofs.inbox.tell.Goals as goal

pub returns-in-Ok-clause-ok : goal.returns-in-Ok-clause-ok
returns-in-Ok-clause-ok g c = c.taken.ensures c.args.found c.step_for-made.ensures

pub returns-in-Err-clause-err : goal.returns-in-Err-clause-err
returns-in-Err-clause-err g c = c.taken-in-Err.ensures c.args.found c.step_for-made.ensures
