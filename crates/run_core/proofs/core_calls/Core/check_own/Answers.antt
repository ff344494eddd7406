use Rattle.std.proofs.Common.{◌≡◌, ◌+◌, ◌-◌, ◌^◌, ◌<◌, true, false, cond, not, length, min, sym, ap, ◌∙◌, subst, arith}
use Rattle.std.specs.Prelude.{Some, None}
use Rattle.std.specs.List.{slice_get}
use Rattle.srb_terms.specs.PathMaps.{PathList}
use Rattle.srb_terms.specs.Projects.{IsProject}
use Rattle.srb_check.specs.Checks.{fresh}
use Rattle.run_core.specs.declared.row.Row.{Row}
use Rattle.run_core.specs.declared.mark.Mark.TheVariants.{Todo}
use Rattle.run_core.specs.Rows.{marked}
use Rattle.run_core.specs.Cores.{Account, IsWholeCore, Lands, checks_after, has_own, state_of}
use Rattle.run_core.proofs.NextFile.{owed_next}
use Rattle.run_core.proofs.CoreSteps.{has_own-within, own_begun, own_built, worked_core, worked_fewer, worked_lands}
use Rattle.run_core.proofs.Loading.{rows_project}
use Rattle.run_core.proofs.SinceBuild.{since_worked}
use Rattle.run_core.proofs.core_calls.Core.check_own.Goals as goal

pub row-file-requires : goal.row-file-requires
row-file-requires g c =
    let i = c.self.inside in
    let within = has_own-within i.docs i.phase i.rows.entries i.epoch i.stale i.seen i.owing i.ended c.self.invariant.core (ap (λ (a : Account). has_own a.state) c.self.view_is ∙ c.requires) in
    omega (arith, within, c.next_row-index.ensures)

pub work_in-requires : goal.work_in-requires
work_in-requires g c =
    let i = c.self.inside in
    let within = has_own-within i.docs i.phase i.rows.entries i.epoch i.stale i.seen i.owing i.ended c.self.invariant.core (ap (λ (a : Account). has_own a.state) c.self.view_is ∙ c.requires) in
    omega (arith, within, c.next_row-index.ensures)

pub invariant_of-self : goal.invariant_of-self
invariant_of-self g c =
    subst (λ (r : PathList _). IsWholeCore c.self.inside.phase c.self.inside.docs c.self.inside.stale r.entries c.self.inside.job c.self.inside.last) (sym c.in_err-landed.ensures.err) c.self.invariant

pub invariant_of-self-2 : goal.invariant_of-self-2
invariant_of-self-2 g c =
    let i = c.self.inside in
    let own = ap (λ (a : Account). has_own a.state) c.self.view_is ∙ c.requires in
    let begun = own_begun i.docs i.phase i.rows.entries i.epoch i.stale i.seen i.owing i.ended c.self.invariant.core own in
    let built = own_built i.docs i.phase i.rows.entries i.epoch i.stale i.seen i.owing i.ended c.self.invariant.core own in
    let works = c.in_ok-landed.ensures.works c.row-file.result.now c.row-file.ensures in
    let written = cond works.shown (Some c.in_ok-list.list) None in
    let left = c.work_in.new.rows.entries in
    let f = c.row-file.result.now.0 in
    let order = c.in_ok-landed.ensures.ordered in
    record {
      core = worked_core i.phase i.docs i.stale i.rows.entries left i.job f written c.self.invariant.core order begun built works.left_is;
      since = λ b e. since_worked i.docs i.rows.entries left i.last f written order works.left_is (c.self.invariant.since b e);
    }

pub returns-clause-lands : goal.returns-clause-lands
returns-clause-lands g c =
    let i = c.self.inside in
    let row = c.row-file.result.now in
    let own = ap (λ (a : Account). has_own a.state) c.self.view_is ∙ c.requires in
    let built = own_built i.docs i.phase i.rows.entries i.epoch i.stale i.seen i.owing i.ended c.self.invariant.core own in
    let ordered : IsProject i.docs.project = rows_project i.rows.entries i.docs.project c.in_ok-landed.ensures.ordered c.self.invariant.core.paths in
    let found = c.in_ok-list.ensures.list i.docs.project ordered built ∙ ap (fresh i.docs.project) c.path.ensures in
    let lands = worked_lands i.docs i.phase i.rows.entries c.work_in.new.rows.entries i.epoch i.stale i.seen i.owing i.ended c.next_row-index.result row c.in_ok-list.list c.in_ok-landed.landed
    c.self.invariant.core c.in_ok-landed.ensures.ordered own c.next_row-index.ensures c.row-file.ensures found (c.in_ok-landed.ensures.works row c.row-file.ensures) in
    subst (λ (a : Account). Lands a.state (state_of i.docs i.phase c.work_in.new.rows.entries i.epoch i.stale false i.owing i.ended) c.in_ok-landed.landed) c.self.view_is lands

pub returns-clause-checks : goal.returns-clause-checks
returns-clause-checks g c =
    let i = c.self.inside in
    let owed = owed_next i.rows.entries c.row-file.result.now c.in_ok-landed.ensures.ordered (ap (slice_get i.rows.entries) (sym c.next_row-index.ensures) ∙ c.row-file.ensures) in
    c.with_check-self-inside.ensures
    ∙ turned c.value.result.now.owed _ _
    ∙ ap (λ b. cond b (min (i.own_checks + 1) (2 ^ 64 - 1)) i.own_checks) (ap (λ (r : Row). not r.owed) c.value.ensures ∙ sym owed)
    ∙ ap checks_after c.self.view_is
  where
    turned : (b : Rattle.std.proofs.Common.Bool) (x y : Rattle.std.proofs.Common.ℕ) → cond b x y ≡ cond (not b) y x
    turned true x y = Rattle.std.proofs.Common.refl
    turned false x y = Rattle.std.proofs.Common.refl

pub returns-clause-fewer : goal.returns-clause-fewer
returns-clause-fewer g c =
    let i = c.self.inside in
    let own = ap (λ (a : Account). has_own a.state) c.self.view_is ∙ c.requires in
    let works = c.in_ok-landed.ensures.works c.row-file.result.now c.row-file.ensures in
    let fewer = worked_fewer i.docs i.phase i.rows.entries c.work_in.new.rows.entries i.epoch i.stale i.seen i.owing i.ended c.row-file.result.now (cond works.shown (Some c.in_ok-list.list) None)
    c.self.invariant.core c.in_ok-landed.ensures.ordered own (ap (slice_get i.rows.entries) (sym c.next_row-index.ensures) ∙ c.row-file.ensures) works.left_is in
    subst (λ (a : Account). length (marked Todo c.work_in.new.rows.entries) < length a.state.todo) c.self.view_is fewer
