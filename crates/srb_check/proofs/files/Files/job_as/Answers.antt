use Rattle.srb_check.proofs.Jobs.{job_again}
use Rattle.srb_check.proofs.files.Files.job_as.Goals as goal

pub returns : goal.returns
returns c =
    λ project old are known facts.
    job_again project old c.args.self _ c.in_ok-world.world c.args.before.now c.with.result are known facts c.self.view_is c.in_ok-world.ensures c.with.ensures
