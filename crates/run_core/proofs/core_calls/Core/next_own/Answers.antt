use Rattle.std.proofs.Common.{◌≡◌, ◌≤◌, true, length, not, sym, ap, ◌∙◌, subst, ◌&&◌}
use Rattle.std.specs.Prelude.{Option, Some, None, is_some}
use Rattle.std.specs.List.{slice_get}
use Rattle.std.specs.Option.{option_map}
use Rattle.std.proofs.lemmas.Option.{slice_get_past}
use Rattle.lsp_docs.specs.Uris.{is_empty}
use Rattle.run_core.specs.declared.mark.Mark.TheVariants.{Todo}
use Rattle.run_core.specs.Rows.{PathRow, marked, next_index}
use Rattle.run_core.specs.Cores.{Account, IsNextOwn, has_own, state_of}
use Rattle.run_core.specs.Machine.{State, looked}
use Rattle.run_core.proofs.CoreSteps.{next_row-is, next_row-some, both, not_both}
use Rattle.run_core.proofs.core_calls.Core.next_own.Goals as goal

pub returns-then-index-as_slice-clause-next : goal.returns-then-index-as_slice-clause-next
returns-then-index-as_slice-clause-next c =
    let i = c.self.inside in
    let s : State = state_of i.docs i.phase i.rows.entries i.epoch i.stale i.seen i.owing i.ended in
    let path_of = option_map (λ (r : PathRow). r.0) in
    let named : path_of (slice_get i.rows.entries (next_index i.rows.entries)) ≡ Some c.path.result.now =
    ap path_of (ap (slice_get i.rows.entries) (sym c.next_row-index.ensures) ∙ c.row.ensures) ∙ ap Some (sym c.path.ensures) in
    let ready : (looked s && not i.stale) ≡ true =
    both (looked s) (not i.stale) (ap (λ (a : Account). looked a.state) c.self.view_is ∙ sym c.is_looked.ensures ∙ c.if-not-is_looked.false) (ap not c.if-self.false) in
    subst (λ (a : Account). IsNextOwn a.state (Some c.path.result.now)) c.self.view_is
    (subst (IsNextOwn s) named (next_row-is i.docs i.phase i.rows.entries i.epoch i.stale i.seen i.owing i.ended c.self.invariant.core c.as_slice.ensures.ordered ready))

pub returns-then-index-as_slice-clause-some : goal.returns-then-index-as_slice-clause-some
returns-then-index-as_slice-clause-some c =
    let i = c.self.inside in
    let s : State = state_of i.docs i.phase i.rows.entries i.epoch i.stale i.seen i.owing i.ended in
    let found : slice_get i.rows.entries (next_index i.rows.entries) ≡ Some c.row.result.now = ap (slice_get i.rows.entries) (sym c.next_row-index.ensures) ∙ c.row.ensures in
    let ready : (looked s && not i.stale) ≡ true =
    both (looked s) (not i.stale) (ap (λ (a : Account). looked a.state) c.self.view_is ∙ sym c.is_looked.ensures ∙ c.if-not-is_looked.false) (ap not c.if-self.false) in
    sym (sym (ap (λ (a : Account). has_own a.state) c.self.view_is)
    ∙ both (looked s && not i.stale) (not (is_empty (marked Todo i.rows.entries))) ready (sym (next_row-some i.rows.entries (c.self.invariant.core.asked c.if-self.false)) ∙ ap is_some found))

pub returns-else-index-as_slice-clause-next : goal.returns-else-index-as_slice-clause-next
returns-else-index-as_slice-clause-next c =
    let i = c.self.inside in
    let s : State = state_of i.docs i.phase i.rows.entries i.epoch i.stale i.seen i.owing i.ended in
    let past : length i.rows.entries ≤ next_index i.rows.entries =
    subst (λ n. length i.rows.entries ≤ n) c.next_row-index.ensures (subst (λ l. length l ≤ c.next_row-index.result) c.as_slice.ensures.entries c.if-index-as_slice.false) in
    let ready : (looked s && not i.stale) ≡ true =
    both (looked s) (not i.stale) (ap (λ (a : Account). looked a.state) c.self.view_is ∙ sym c.is_looked.ensures ∙ c.if-not-is_looked.false) (ap not c.if-self.false) in
    subst (λ (a : Account). IsNextOwn a.state None) c.self.view_is
    (subst (λ (o : Option PathRow). IsNextOwn s (option_map (λ (r : PathRow). r.0) o)) (slice_get_past i.rows.entries (next_index i.rows.entries) past)
    (next_row-is i.docs i.phase i.rows.entries i.epoch i.stale i.seen i.owing i.ended c.self.invariant.core c.as_slice.ensures.ordered ready))

pub returns-else-index-as_slice-clause-some : goal.returns-else-index-as_slice-clause-some
returns-else-index-as_slice-clause-some c =
    let i = c.self.inside in
    let s : State = state_of i.docs i.phase i.rows.entries i.epoch i.stale i.seen i.owing i.ended in
    let past : length i.rows.entries ≤ next_index i.rows.entries =
    subst (λ n. length i.rows.entries ≤ n) c.next_row-index.ensures (subst (λ l. length l ≤ c.next_row-index.result) c.as_slice.ensures.entries c.if-index-as_slice.false) in
    sym (sym (ap (λ (a : Account). has_own a.state) c.self.view_is)
    ∙ not_both (looked s && not i.stale) (not (is_empty (marked Todo i.rows.entries)))
    (sym (next_row-some i.rows.entries (c.self.invariant.core.asked c.if-self.false)) ∙ ap is_some (slice_get_past i.rows.entries (next_index i.rows.entries) past)))
