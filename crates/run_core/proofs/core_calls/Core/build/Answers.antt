use Rattle.std.proofs.Common.{false, sym, ap, ◌∙◌, subst}
use Rattle.std.specs.Prelude.{None}
use Rattle.srb_check.specs.Jobs.{IsJobOf}
use Rattle.run_watch.specs.declared.step.Step.TheVariants.{Build}
use Rattle.run_core.specs.Cores.{Account, IsCore, Makes, state_of}
use Rattle.run_core.specs.Machine.{looked}
use Rattle.run_core.proofs.CoreSteps.{built_core, build_makes, both}
use Rattle.run_core.proofs.Loading.{rows_project}
use Rattle.run_core.proofs.SinceBuild.{since_built}
use Rattle.run_core.proofs.core_calls.Core.build.Goals as goal

pub invariant_of-self : goal.invariant_of-self
invariant_of-self c =
    let i = c.self.inside in
    let known = c.in_ok-job.ensures.job in
    record {
      core = subst (λ rows. IsCore i.phase i.docs false rows c.in_ok-job.job) (sym c.build.ensures.entries)
          (built_core _ _ _ _ _ _ c.self.invariant.core (ap (λ (a : Account). a.state.stale) c.self.view_is ∙ c.requires.stale) known);
      since = λ begun fresh.
          since_built i.docs c.build.new.self.entries c.in_ok-last.last (rows_project i.rows.entries i.docs.project c.build.ensures.ordered c.self.invariant.core.paths)
          (subst (IsJobOf i.docs.project) (sym (c.in_ok-last.ensures ∙ c.in_ok-copied.ensures)) known);
    }

pub returns-clause-makes : goal.returns-clause-makes
returns-clause-makes c =
    let i = c.self.inside in
    subst (λ (a : Account). Makes a.state (state_of i.docs i.phase c.build.new.self.entries i.epoch false i.seen i.owing i.ended) Build None) c.self.view_is
    (build_makes _ _ _ _ _ _ _ _ _
    (both _ _ (ap (λ (a : Account). looked a.state) c.self.view_is ∙ c.requires.looked) (ap (λ (a : Account). a.state.stale) c.self.view_is ∙ c.requires.stale))
    c.build.ensures.ordered c.self.invariant.core.paths c.build.ensures.entries)
