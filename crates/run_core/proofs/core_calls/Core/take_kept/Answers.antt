use Rattle.std.proofs.Common.{◌+◌, true, false, sym, ap, ◌∙◌, subst}
use Rattle.std.specs.Prelude.{is_some}
use Rattle.std.specs.Option.{option_map}
use Rattle.srb_terms.specs.Projects.{bytes_at}
use Rattle.srb_check.specs.Jobs.{IsJobOf, IsJobWith}
use Rattle.srb_check.specs.Records.{loaded}
use Rattle.lsp_docs.specs.Documents.{Documents}
use Rattle.lsp_docs.specs.Rows.{HasRoom, planned}
use Rattle.run_core.specs.Rows.{after_edited}
use Rattle.run_core.specs.Machine.{project_of}
use Rattle.run_core.specs.Cores.{Account, IsCore, IsEdited, IsOfBuild, after_plan, keeps_at, state_of}
use Rattle.run_core.proofs.CoreSteps.{edited_facts, edited_others, kept_core, kept_state, serving_built, some_loaded}
use Rattle.run_core.proofs.Loading.{rows_project}
use Rattle.run_core.proofs.SinceBuild.{since_edited}
use Rattle.run_core.proofs.core_calls.Core.take_kept.Goals as goal

pub edit_job-requires-clause-room : goal.edit_job-requires-clause-room
edit_job-requires-clause-room c =
    subst (λ (a : Account). HasRoom c.args.plan.path c.args.plan.kept a.state.session.documents.project) (sym c.self.view_is) c.requires.room

pub edit_job-requires-clause-file : goal.edit_job-requires-clause-file
edit_job-requires-clause-file c =
    c.requires.file ∙ sym (ap (λ (a : Account). option_map loaded (bytes_at c.args.plan.path (planned c.args.plan a.state.session.documents).project)) c.self.view_is)

pub edit_job-requires-clause-others : goal.edit_job-requires-clause-others
edit_job-requires-clause-others c =
    λ f bytes differs is.
    let i = c.self.inside in
    let plan = c.args.plan in
    edited_others i.docs (planned plan i.docs) plan.path f bytes i.job
    (subst (λ (a : Account). IsEdited a.state.session.documents (planned plan a.state.session.documents) plan.path) (sym c.self.view_is) c.requires.edited)
    (rows_project i.rows.entries i.docs.project c.reserve.ensures.ordered c.self.invariant.core.paths)
    (serving_built i.phase i.docs i.stale i.rows.entries i.job (ap (λ (a : Account). a.state.session.phase) c.self.view_is ∙ c.requires.phase)
    (ap (λ (a : Account). a.state.stale) c.self.view_is ∙ c.requires.built) c.self.invariant.core)
    differs is

pub invariant_of-self-2 : goal.invariant_of-self-2
invariant_of-self-2 c =
    let i = c.self.inside in
    let plan = c.args.plan in
    let new = planned plan i.docs in
    let edited = subst (λ (a : Account). IsEdited a.state.session.documents (planned plan a.state.session.documents) plan.path) (sym c.self.view_is) c.requires.edited in
    let serving = ap (λ (a : Account). a.state.session.phase) c.self.view_is ∙ c.requires.phase in
    let known = serving_built i.phase i.docs i.stale i.rows.entries i.job serving (ap (λ (a : Account). a.state.stale) c.self.view_is ∙ c.requires.built) c.self.invariant.core in
    let keeps = ap (λ (a : Account). keeps_at plan.path (project_of a.state) (planned plan a.state.session.documents).project) c.self.view_is ∙ c.requires.kept in
    let order = rows_project i.rows.entries i.docs.project c.reserve.ensures.ordered c.self.invariant.core.paths in
    let facts = edited_facts i.docs new plan.path edited order keeps in
    let left = c.edit.ensures.entries ∙ (λ k. after_edited (c.in_ok-path.ensures k) c.is_some.result true (c.reserve.ensures.entries k)) in
    record {
      core = subst (λ d. IsCore i.phase d i.stale c.edit.new.self.entries c.edit_job.new.job) (sym c.in_ok-edit_job.ensures.docs)
          (kept_core i.phase i.docs new i.stale i.rows.entries c.edit.new.self.entries i.job c.edit_job.new.job plan.path c.is_some.result
          serving edited c.reserve.ensures.ordered c.self.invariant.core
          (c.is_some.ensures ∙ ap is_some (c.requires.file ∙ sym (ap (λ (a : Account). option_map loaded (bytes_at plan.path (planned plan a.state.session.documents).project)) c.self.view_is))
          ∙ some_loaded loaded (bytes_at plan.path new.project))
          left
          (c.in_ok-edit_job.ensures.edited order known facts));
      since = λ begun fresh.
          subst (λ d. IsOfBuild d c.edit.new.self.entries i.last) (sym c.in_ok-edit_job.ensures.docs)
          (since_edited i.docs new i.rows.entries c.edit.new.self.entries i.last plan.path c.is_some.result edited c.reserve.ensures.ordered facts left
          (c.self.invariant.since begun fresh));
    }

pub returns-clause-state : goal.returns-clause-state
returns-clause-state c =
    let i = c.self.inside in
    let plan = c.args.plan in
    ap (λ d. state_of d i.phase c.edit.new.self.entries (i.epoch + 1) i.stale false i.owing i.ended) c.in_ok-edit_job.ensures.docs
    ∙ kept_state i.docs (planned plan i.docs) i.phase i.rows.entries c.edit.new.self.entries i.epoch i.stale i.seen i.owing i.ended plan.path c.is_some.result
    c.reserve.ensures.ordered
    (c.edit.ensures.entries ∙ (λ k. after_edited (c.in_ok-path.ensures k) c.is_some.result true (c.reserve.ensures.entries k)))
    ∙ ap (λ (a : Account). after_plan a.state plan true) c.self.view_is
