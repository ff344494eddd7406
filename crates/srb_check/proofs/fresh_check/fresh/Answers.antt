use Rattle.std.proofs.Common.{ap, ◌∙◌}
use Rattle.srb_check.specs.Checks.{fresh}
use Rattle.srb_check.proofs.fresh_check.fresh.Goals as goal

pub returns : goal.returns
returns c =
    c.into_vec.ensures ∙ c.in_ok-errors.ensures c.args.project.now c.project_job.ensures.ordered c.in_ok-job.ensures.job
    ∙ ap (fresh c.args.project.now) c.in_ok-path.ensures
