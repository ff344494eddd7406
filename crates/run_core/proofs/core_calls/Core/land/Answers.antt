use Rattle.std.proofs.Common.{◌≡◌, false, not, ◌&&◌, ◌||◌, cond, refl, sym, ap, ◌∙◌, subst}
use Rattle.std.specs.Prelude.{Some, None}
use Rattle.std.specs.List.{slice_get}
use Rattle.srb_check.specs.Found.{IsFoundIn}
use Rattle.srb_check.specs.Jobs.{Known}
use Rattle.lsp_docs.specs.Paths.{has}
use Rattle.lsp_docs.specs.Uris.{is_empty}
use Rattle.run_core.specs.declared.mark.Mark.TheVariants.{Todo, Owed, Edited}
use Rattle.run_core.specs.Rows.{marked}
use Rattle.run_core.specs.Machine.{looked, may_drop}
use Rattle.run_core.specs.Cores.{Account, LandsAt, state_of}
use Rattle.run_core.proofs.CoreSteps.{worked_core}
use Rattle.run_core.proofs.SinceBuild.{begun_by, item_is_fresh, item_lands, kept_parts, since_worked}
use Rattle.run_core.proofs.core_calls.Core.land.Goals as goal

pub invariant_of-self-in-Work : goal.invariant_of-self-in-Work
invariant_of-self-in-Work c =
    let i = c.self.inside in
    let f = c.in-Some.path.now in
    let at = c.in-Work.ensures.fate.2 in
    let parts = kept_parts i.stale (has f (marked Todo i.rows.entries)) (has f (marked Edited i.rows.entries)) c.in-Work.ensures.fate.0 in
    let begun = begun_by i.phase i.docs i.stale i.rows.entries f c.self.invariant.core parts.1 in
    let works = c.in_ok-landed-in-Work.ensures.works (f, at.0) at.1 in
    let written = cond works.shown (Some c.args.item.list) None in
    let left = c.work_in.new.rows.entries in
    let order = c.in-Work.ensures.ordered in
    let core = c.self.invariant.core in
    record {
      core = worked_core i.phase i.docs i.stale i.rows.entries left i.job f written core order begun (core.built begun parts.0) works.left_is;
      since = λ b e. since_worked i.docs i.rows.entries left i.last f written order works.left_is (c.self.invariant.since b e);
    }

pub returns-in-Wait-clause-lands : goal.returns-in-Wait-clause-lands
returns-in-Wait-clause-lands c =
    let n = c.args.item.number in
    let f = c.in-Some.path.now in (
      f,
      ap (λ (a : Account). slice_get a.job.files.paths n) (sym c.self.view_is) ∙ ap (λ (k : Known). slice_get k.files.paths n) (sym c.get.ensures) ∙ sym c.in-Some.ensures,
      (
        ap (λ (a : Account). may_drop a.state f) (sym c.self.view_is) ∙ c.in-Wait.ensures.fate.0,
        (λ k. not (sym c.is_looked-is_looked.ensures k) || (not (has f (sym c.self.view_is k).state.owed) && not (is_empty (sym c.self.view_is k).state.owed))) ∙ c.in-Wait.ensures.fate.1,
        refl,
        refl,
      ),
    )

pub returns-in_ok-landed-in-Work-clause-lands : goal.returns-in_ok-landed-in-Work-clause-lands
returns-in_ok-landed-in-Work-clause-lands c =
    let i = c.self.inside in
    let n = c.args.item.number in
    let f = c.in-Some.path.now in
    let at = c.in-Work.ensures.fate.2 in
    let parts = kept_parts i.stale (has f (marked Todo i.rows.entries)) (has f (marked Edited i.rows.entries)) c.in-Work.ensures.fate.0 in
    let begun = begun_by i.phase i.docs i.stale i.rows.entries f c.self.invariant.core parts.1 in
    let named : slice_get i.last.files.paths n ≡ Some f = ap (λ (k : Known). slice_get k.files.paths n) (sym c.get.ensures) ∙ sym c.in-Some.ensures in
    let found = subst (λ (a : Account). IsFoundIn a.job n c.args.item.list) (sym c.self.view_is) c.requires.found in
    let fresh = item_is_fresh i.docs i.rows.entries i.last n c.args.item.list f (c.self.invariant.since begun parts.0) found named parts.2 in
    let seen = ap (λ (a : Account). looked a.state) c.self.view_is ∙ sym c.is_looked-is_looked.ensures in
    let owed = marked Owed i.rows.entries in
    let ready = ap (λ b. not b || (not (has f owed) && not (is_empty owed))) seen ∙ c.in-Work.ensures.fate.1 in
    let left = c.work_in.new.rows.entries in
    let lands = item_lands i.docs i.phase i.rows.entries left i.epoch i.stale i.seen i.owing i.ended c.in-Work.index f c.args.item c.in_ok-landed-in-Work.landed
    c.in-Work.ensures.ordered c.in-Work.ensures.fate.0 ready at fresh (c.in_ok-landed-in-Work.ensures.works (f, at.0) at.1) in (
      f,
      ap (λ (a : Account). slice_get a.job.files.paths n) (sym c.self.view_is) ∙ named,
      subst (λ (a : Account). LandsAt a.state (state_of i.docs i.phase left i.epoch i.stale false i.owing i.ended) f c.args.item c.in_ok-landed-in-Work.landed) c.self.view_is lands,
    )
