use Rattle.std.proofs.Common.{◌≡◌, sym, ap, subst, ◌∙◌}
use Rattle.srb_terms.specs.Projects.{bytes_at, put_file}
use Rattle.srb_check.specs.Jobs.{IsJobOf, IsJobWith}
use Rattle.srb_check.specs.Symbols.{project_facts}
use Rattle.lsp_docs.specs.Documents.{Documents}
use Rattle.lsp_docs.specs.Projects.{Project, with_bytes}
use Rattle.lsp_docs.specs.Rows.{planned}
use Rattle.run_core.proofs.CoreSteps.{planned_here}
use Rattle.run_core.proofs.Loading.{loaded_some}
use Rattle.run_core.proofs.builds.edit_job.Goals as goal
use Rattle.run_core.proofs.builds.edit_job.Goals.{in-Some+else-is_some, else-is_some-via-then-is_some+in_ok-copied+else-put, else-is_some-via-else-is_some, in_default}

pub returns-in-Ok-clause-edited : goal.returns-in-Ok-clause-edited
returns-in-Ok-clause-edited c = λ order known facts.
    let here = loaded_some _ _ (sym c.in-Some.is ∙ c.requires.file) in
    let plan = c.args.plan in
    let d = c.args.docs.now in
    let is : (planned plan d).project ≡ put_file plan.path here.0 d.project = ap (λ o. with_bytes plan.path o d.project) (sym (planned_here plan d) ∙ here.1) in
    subst (λ (p : Project). IsJobOf p c.put.new.self) (sym is)
    (c.put.ensures.put d.project here.0 order known (c.in_ok-copied.ensures ∙ here.2) (ap project_facts (sym is) ∙ facts) c.if-put.true)

pub edited_job-requires-clause-others : goal.edited_job-requires-clause-others
edited_job-requires-clause-others c = λ f bytes differs is.
    let plan = c.args.plan in
    let job : c.match-file.job ≡ c.args.job.now = elim c.match-file.branch [
      | in-Some+else-is_some w ↦ w.job-is ∙ elim w.else-is_some.branch [
        | else-is_some-via-then-is_some+in_ok-copied+else-put v ↦ v.job-is ∙ v.put.ensures.absent v.if-put.false
        | else-is_some-via-else-is_some v ↦ v.job-is
      ]
      | in_default w ↦ w.job-is
    ] in
    let docs = c.in_ok-enact.ensures.done ∙ ap (planned plan) c.in_ok-after.ensures in
    subst (IsJobWith f bytes) (sym job)
    (c.requires.others f bytes (λ same. differs (same ∙ sym c.in_ok-path.ensures)) (sym (ap (λ (d : Documents). bytes_at f d.project) docs) ∙ is))

pub returns-clause-edited : goal.returns-clause-edited
returns-clause-edited c = λ order known facts.
    let plan = c.args.plan in
    let job : c.match-file.job ≡ c.args.job.now = elim c.match-file.branch [
      | in-Some+else-is_some w ↦ w.job-is ∙ elim w.else-is_some.branch [
        | else-is_some-via-then-is_some+in_ok-copied+else-put v ↦ v.job-is ∙ v.put.ensures.absent v.if-put.false
        | else-is_some-via-else-is_some v ↦ v.job-is
      ]
      | in_default w ↦ w.job-is
    ] in
    let docs = c.in_ok-enact.ensures.done ∙ ap (planned plan) c.in_ok-after.ensures in
    subst (λ (d : Documents). IsJobOf d.project c.in_ok-job.field-0) docs
    (c.in_ok-job.ensures c.args.docs.now.project (subst (IsJobOf c.args.docs.now.project) (sym job) known)
    (ap (λ (d : Documents). project_facts d.project) docs ∙ facts))
