use Rattle.run_core.proofs.builds.edited_job.Goals as goal

pub returns : goal.returns
returns c = λ old known facts. c.job_as.ensures c.args.docs.now.project old c.in_ok-edited_files.ensures known facts
