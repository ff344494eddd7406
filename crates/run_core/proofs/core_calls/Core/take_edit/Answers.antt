use Rattle.std.proofs.Common.{◌≡◌, true, false, not, ◌||◌, sym, ap, ◌∙◌, subst}
use Rattle.std.specs.Prelude.{OnOk, is_some}
use Rattle.std.specs.Option.{option_map}
use Rattle.srb_terms.specs.Projects.{bytes_at}
use Rattle.srb_check.specs.Records.{loaded}
use Rattle.lsp_docs.specs.Rows.{planned}
use Rattle.run_core.specs.Machine.{project_of}
use Rattle.run_core.specs.Cores.{Account, after_plan, keeps_at}
use Rattle.run_core.proofs.CoreSteps.{planned_here, some_loaded, stays_both, stays_not}
use Rattle.run_core.proofs.core_calls.Core.take_edit.Goals as goal

pub take_kept-requires-clause-file : goal.take_kept-requires-clause-file
take_kept-requires-clause-file c =
    c.in_ok-file.ensures ∙ ap (option_map loaded) (c.bytes.ensures ∙ sym (planned_here c.args.plan c.args.self.now.state.session.documents))

pub take_kept-requires-clause-kept : goal.take_kept-requires-clause-kept
take_kept-requires-clause-kept c =
    let plan = c.args.plan in
    let new = planned plan c.args.self.now.state.session.documents in
    let file = c.in_ok-file.ensures ∙ ap (option_map loaded) (c.bytes.ensures ∙ sym (planned_here plan c.args.self.now.state.session.documents)) in
    ap (λ (a : Account). keeps_at plan.path (project_of a.state) new.project) (sym c.self.view_is)
    ∙ sym (c.in_ok-kept.ensures (bytes_at plan.path new.project) file)
    ∙ (stays_both c.in_ok-kept.kept c.self.inside.stale (sym c.stays.ensures ∙ c.if-stays.true)).0

pub take_kept-requires-clause-built : goal.take_kept-requires-clause-built
take_kept-requires-clause-built c =
    ap (λ (a : Account). a.state.stale) (sym c.self.view_is)
    ∙ (stays_both c.in_ok-kept.kept c.self.inside.stale (sym c.stays.ensures ∙ c.if-stays.true)).1

pub take_changed-requires-clause-present : goal.take_changed-requires-clause-present
take_changed-requires-clause-present c =
    c.is_some.ensures ∙ ap is_some (c.in_ok-file.ensures ∙ ap (option_map loaded) (c.bytes.ensures ∙ sym (planned_here c.args.plan c.args.self.now.state.session.documents)))
    ∙ some_loaded loaded (bytes_at c.args.plan.path (planned c.args.plan c.args.self.now.state.session.documents).project)

pub take_changed-requires-clause-stale : goal.take_changed-requires-clause-stale
take_changed-requires-clause-stale c =
    ap (λ (a : Account). not c.in_ok-kept.kept || a.state.stale) (sym c.self.view_is)
    ∙ stays_not c.in_ok-kept.kept c.self.inside.stale (sym c.stays.ensures ∙ c.if-stays.false)

pub returns-then-stays-clause-state : goal.returns-then-stays-clause-state
returns-then-stays-clause-state c =
    let plan = c.args.plan in
    let new = planned plan c.args.self.now.state.session.documents in
    let file = c.in_ok-file.ensures ∙ ap (option_map loaded) (c.bytes.ensures ∙ sym (planned_here plan c.args.self.now.state.session.documents)) in
    let kept = ap (λ (a : Account). keeps_at plan.path (project_of a.state) new.project) (sym c.self.view_is)
    ∙ sym (c.in_ok-kept.ensures (bytes_at plan.path new.project) file)
    ∙ (stays_both c.in_ok-kept.kept c.self.inside.stale (sym c.stays.ensures ∙ c.if-stays.true)).0 in
    subst (λ b. OnOk c.take_kept.result (c.take_kept.new.self.state ≡ after_plan c.args.self.now.state plan b)) (sym kept) c.take_kept.ensures.state

pub returns-clause-state : goal.returns-clause-state
returns-clause-state c =
    let plan = c.args.plan in
    let new = planned plan c.args.self.now.state.session.documents in
    let file = c.in_ok-file.ensures ∙ ap (option_map loaded) (c.bytes.ensures ∙ sym (planned_here plan c.args.self.now.state.session.documents)) in
    let kept = c.in_ok-kept.ensures (bytes_at plan.path new.project) file
    ∙ ap (λ (a : Account). keeps_at plan.path (project_of a.state) new.project) c.self.view_is in
    subst (λ b. OnOk c.take_changed.result (c.take_changed.new.self.state ≡ after_plan c.args.self.now.state plan b)) kept c.take_changed.ensures.state
