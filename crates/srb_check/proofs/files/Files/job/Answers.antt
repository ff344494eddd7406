use Rattle.std.proofs.Common.{ap, map, ◌∙◌}
use Rattle.srb_check.specs.Jobs.{Known, summary_of}
use Rattle.srb_check.proofs.Jobs.{job_stands}
use Rattle.srb_check.proofs.files.Files.job.Goals as goal

pub returns : goal.returns
returns c =
    λ project are.
    job_stands project c.args.self _ c.as_slice-2.result.now c.in_ok-built.built c.with.result are c.self.view_is
    (c.as_slice-2.ensures.value ∙ c.in_ok-summaries.ensures ∙ ap (map summary_of) c.as_slice.ensures) c.in_ok-built.ensures.names c.in_ok-built.ensures.members
    (c.with.ensures ∙ ap (λ w. record { world = w; files = record { paths = c.self.inside.paths; records = c.self.inside.records } }) c.in_ok-world.ensures)
