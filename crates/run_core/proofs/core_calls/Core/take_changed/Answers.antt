use Rattle.std.proofs.Common.{◌+◌, true, false, not, ◌||◌, sym, ap, ◌∙◌, subst, arith}
use Rattle.std.specs.Prelude.{is_some}
use Rattle.srb_terms.specs.Projects.{bytes_at}
use Rattle.lsp_docs.specs.Rows.{planned}
use Rattle.run_core.specs.Rows.{after_edited}
use Rattle.run_core.specs.Cores.{Account, IsCore, IsEdited, after_plan, state_of}
use Rattle.run_core.proofs.CoreSteps.{changed_core, changed_state}
use Rattle.run_core.proofs.core_calls.Core.take_changed.Goals as goal

pub invariant_of-self-2 : goal.invariant_of-self-2
invariant_of-self-2 c =
    let i = c.self.inside in
    let plan = c.args.plan in
    record {
      core = subst (λ d. IsCore i.phase d true c.edit.new.self.entries i.job) (sym c.in_ok-enact.ensures.done)
          (changed_core i.phase i.docs (planned plan i.docs) i.rows.entries c.edit.new.self.entries i.job plan.path c.args.present c.args.kept
          (ap (λ (a : Account). a.state.session.phase) c.self.view_is ∙ c.requires.phase)
          (subst (λ (a : Account). IsEdited a.state.session.documents (planned plan a.state.session.documents) plan.path) (sym c.self.view_is) c.requires.edited)
          c.reserve.ensures.ordered c.self.invariant.core.paths
          (c.requires.present ∙ sym (ap (λ (a : Account). is_some (bytes_at plan.path (planned plan a.state.session.documents).project)) c.self.view_is))
          (c.edit.ensures.entries ∙ (λ k. after_edited (c.in_ok-path.ensures k) c.args.present c.args.kept (c.reserve.ensures.entries k))));
      since = λ begun no. absurd (grind (arith, no));
    }

pub returns-clause-state : goal.returns-clause-state
returns-clause-state c =
    let i = c.self.inside in
    let plan = c.args.plan in
    ap (λ d. state_of d i.phase c.edit.new.self.entries (i.epoch + 1) true false i.owing i.ended) c.in_ok-enact.ensures.done
    ∙ changed_state i.docs (planned plan i.docs) i.phase i.rows.entries c.edit.new.self.entries i.epoch i.stale i.seen i.owing i.ended plan.path c.args.present c.args.kept
    c.reserve.ensures.ordered
    (c.edit.ensures.entries ∙ (λ k. after_edited (c.in_ok-path.ensures k) c.args.present c.args.kept (c.reserve.ensures.entries k)))
    (ap (λ (a : Account). not c.args.kept || a.state.stale) c.self.view_is ∙ c.requires.stale)
    ∙ ap (λ (a : Account). after_plan a.state plan c.args.kept) c.self.view_is
