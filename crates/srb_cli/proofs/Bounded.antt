-- How many files a session checks.
use Rattle.std.proofs.Common.{inl, inr, List}
use Rattle.srb_terms.specs.declared.cause.Cause.{Cause}
use Rattle.srb_terms.specs.declared.cause.Cause.TheVariants.{Done, Errors, NoShutdown, Usage, ReadFault, WriteFault, Broken, TooLong, TooMany, TooBig, NoMemory}
use Rattle.lsp_docs.specs.Projects.{Project}
use Rattle.run_watch.specs.declared.step.Step.{Step}
use Rattle.run_core.specs.Cores.{checked_language}
use Rattle.run_core.specs.Runs.{Run}
use Rattle.run_core.proofs.Counting.{works_bound, builds_bound}
use Rattle.run_serve.specs.Course.{Course}
use Rattle.run_serve.specs.Recorded.{Tracing, Gains, Records, RecordsWhole}
use Rattle.srb_cli.specs.Laws.{IsBounded, WorkIsBounded}

of_run : (base : Project) (steps : List Step) → Run checked_language base steps → IsBounded base steps
of_run base steps run = record {
  checks = works_bound checked_language base steps run;
  rebuilds = builds_bound checked_language base steps run;
}

whole : (base : Project) (c : Course) (t : Tracing) → RecordsWhole base c t → (steps : List Step) × Gains t steps × IsBounded base steps
whole base c t r = (r.steps, r.gains, of_run base r.steps r.run)

bounded : (cause : Cause) (base : Project) (c : Course) (t : Tracing) → Records base cause c t → (steps : List Step) × Gains t steps × IsBounded base steps
bounded Done base c t r = whole base c t r
bounded NoShutdown base c t r = whole base c t r
bounded ReadFault base c t r = whole base c t r
bounded (Broken at) base c t r = whole base c t r
bounded (TooLong size) base c t r = whole base c t r
bounded WriteFault base c t r = (r.steps, r.gains, of_run base r.steps r.run)
bounded NoMemory base c t r = (r.steps, r.gains, of_run base r.steps r.run)
bounded Errors base c t r = absurd r
bounded Usage base c t r = absurd r
bounded (TooMany files) base c t r = absurd r
bounded (TooBig path) base c t r = absurd r

pub work_is_bounded : WorkIsBounded
work_is_bounded cause dir workers o (inl (before, quiet)) = inl quiet
work_is_bounded cause dir workers o (inr (base, given, served)) =
    let b = bounded cause base o.course o.tracing served.1 in
    inr (base, given, b.0, b.1, b.2)
