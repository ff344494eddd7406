-- What a core knows of the project as it was at its last build, and items that land.
use Rattle.std.proofs.Common.{◌≡◌, ℕ, Bool, true, false, cond, not, ◌&&◌, ◌||◌, List, [], ◌∷◌, refl, sym, ap, ◌∙◌, subst, arith}
use Rattle.std.specs.Prelude.{Option, Some, bytes_eq}
use Rattle.std.specs.List.{slice_get}
use Rattle.std.proofs.lemmas.Bool.{or_parts}
use Rattle.srb_terms.specs.PathMaps.{IsEntryOf, IsOrdered}
use Rattle.srb_terms.specs.Projects.{bytes_at, IsProject}
use Rattle.srb_terms.specs.declared.diag.Diag.{Diag}
use Rattle.srb_check.specs.Checks.{fresh, fresh_of}
use Rattle.srb_check.specs.Found.{IsFoundIn}
use Rattle.srb_check.specs.Jobs.{IsJobOf, Known}
use Rattle.srb_check.specs.Symbols.{project_facts}
use Rattle.lsp_msg.specs.declared.id.Id.{Id}
use Rattle.run_watch.specs.declared.end_cause.EndCause.{EndCause}
use Rattle.run_watch.specs.declared.step.Step.TheVariants.{Work}
use Rattle.run_queues.specs.declared.item.Item.{Item}
use Rattle.lsp_docs.specs.Paths.{Path, has}
use Rattle.lsp_docs.specs.Documents.{Documents}
use Rattle.lsp_docs.specs.Uris.{is_empty}
use Rattle.lsp_docs.proofs.PathLemmas.{bytes_at-with_bytes, has-with_path}
use Rattle.run_core.specs.declared.row.Row.{Row}
use Rattle.run_core.specs.declared.mark.Mark.{Mark}
use Rattle.run_core.specs.declared.mark.Mark.TheVariants.{Todo, Owed, Edited}
use Rattle.run_core.specs.declared.landed.Landed.{Landed}
use Rattle.run_core.specs.Rows.{PathRow, after_edited, after_worked, has_mark, marked}
use Rattle.run_core.specs.Sessions.{Phase}
use Rattle.run_core.specs.Machine.{State, may_drop, may_work, must_wait}
use Rattle.run_core.specs.Cores.{IsCore, IsEdited, is_waiting, IsOfBuild, LandsAt, Makes, WorksIn, landed_by, state_of}
use Rattle.run_core.proofs.CoreSteps.{begun_asked, out_for, worked_makes}
use Rattle.run_core.proofs.NextFile.{has-at}
use Rattle.run_core.proofs.Landing.{landing}
use Rattle.run_core.proofs.Loading.{bytes_at_index, some_same}
use Rattle.run_core.proofs.RowMarks.{marked-put, marked-put-same}

-- ---- the project of the last build

-- after a build it is the project as it is now
pub since_built : (d : Documents) (rows : List PathRow) (job : Known) → IsProject d.project → IsJobOf d.project job → IsOfBuild d rows job
since_built d rows job order known = record { project = d.project; ordered = order; known = known; facts = refl; same = λ f unedited. refl }

-- it stays that of the last build after an edit that keeps the facts
pub since_edited : (d new : Documents) (rows left : List PathRow) (last : Known) (f : Path) (present : Bool) → IsEdited d new f → IsOrdered rows
    → project_facts new.project ≡ project_facts d.project → left ≡ after_edited f present true rows → IsOfBuild d rows last → IsOfBuild new left last
since_edited d new rows left last f present edited order facts left_is since = record {
  project = since.project;
  ordered = since.ordered;
  known = since.known;
  facts = facts ∙ since.facts;
  same = λ g unedited.
      let apart = or_parts (bytes_eq g f) (has g (marked Edited rows))
      (sym (has-with_path g f (marked Edited rows)) ∙ ap (has g) (sym (ap (marked Edited) left_is ∙ marked-put Edited f _ rows order)) ∙ unedited) in
      ap (λ (x : Documents). bytes_at g x.project) edited.done
      ∙ bytes_at-with_bytes g edited.edit.path edited.edit.now d.project
      ∙ ap (λ b. cond b edited.edit.now (bytes_at g d.project)) (ap (bytes_eq g) (sym edited.named) ∙ apart.0)
      ∙ since.same g apart.1;
}

-- and after a file was worked on
pub since_worked : (d : Documents) (rows left : List PathRow) (last : Known) (f : Path) (list : Option (List Diag)) → IsOrdered rows → left ≡ after_worked f list rows
    → IsOfBuild d rows last → IsOfBuild d left last
since_worked d rows left last f list order left_is since = record {
  project = since.project;
  ordered = since.ordered;
  known = since.known;
  facts = since.facts;
  same = λ g unedited. since.same g (ap (has g) (sym (ap (marked Edited) left_is ∙ marked-put-same Edited f _ rows order refl)) ∙ unedited);
}

-- ---- rows

-- what is kept at an index tells whether the path there is in a set
mark_at : (m : Mark) (rows : List PathRow) (i : ℕ) (f : Path) (row : PathRow) (kept : Row) → IsOrdered rows → IsEntryOf f rows i → slice_get rows i ≡ Some row → kept ≡ row.1
    → has f (marked m rows) ≡ has_mark m kept
mark_at m rows i f row kept order at is same =
    has-at m rows i (f, at.0) order at.1 ∙ ap (has_mark m) (ap (λ (r : PathRow). r.1) (some_same (sym at.1 ∙ is)) ∙ sym same)

pub drop_test : (rows : List PathRow) (i : ℕ) (f : Path) (row : PathRow) (kept : Row) (stale : Bool) → IsOrdered rows → IsEntryOf f rows i → slice_get rows i ≡ Some row → kept ≡ row.1
    → (stale || not (has f (marked Todo rows)) || has f (marked Edited rows)) ≡ (stale || not kept.todo || kept.edited)
drop_test rows i f row kept stale order at is same =
    λ j. stale || not (mark_at Todo rows i f row kept order at is same j) || mark_at Edited rows i f row kept order at is same j

pub wait_test : (rows : List PathRow) (i : ℕ) (f : Path) (row : PathRow) (kept : Row) (is_looked owes : Bool) → IsOrdered rows → IsEntryOf f rows i → slice_get rows i ≡ Some row → kept ≡ row.1
    → owes ≡ not (is_empty (marked Owed rows))
    → (not is_looked || (not (has f (marked Owed rows)) && not (is_empty (marked Owed rows)))) ≡ (not is_looked || (not kept.owed && owes))
wait_test rows i f row kept is_looked owes order at is same some = λ j. not is_looked || (not (mark_at Owed rows i f row kept order at is same j) && sym some j)

-- a file that is to be worked on is so after `initialize` alone
pub begun_by : {job : Known} (phase : Phase) (d : Documents) (stale : Bool) (rows : List PathRow) (f : Path) → IsCore phase d stale rows job → has f (marked Todo rows) ≡ true
    → is_waiting phase ≡ false
begun_by phase d stale rows f core due = begun_asked phase stale (marked Todo rows) core.waiting (by (marked Todo rows) due)
  where
    by : (fs : List Path) → has f fs ≡ true → not (is_empty fs) ≡ true
    by [] e = e
    by (g ∷ gs) e = refl

-- errors that aren't thrown away are of a file that is to be worked on and wasn't edited since the build, and nothing is stale
pub kept_parts : (stale todo edited : Bool) → (stale || not todo || edited) ≡ false → (stale ≡ false) × (todo ≡ true) × (edited ≡ false)
kept_parts true todo edited e = absurd (grind (arith, e))
kept_parts false true edited e = (refl, refl, e)
kept_parts false false edited e = absurd (grind (arith, e))

-- ---- items

-- what was found in a file that wasn't edited since the last build is what a fresh check finds there now
pub item_is_fresh : (d : Documents) (rows : List PathRow) (last : Known) (number : ℕ) (list : List Diag) (f : Path) → IsOfBuild d rows last → IsFoundIn last number list
    → slice_get last.files.paths number ≡ Some f → has f (marked Edited rows) ≡ false → list ≡ fresh d.project f
item_is_fresh d rows last number list f since found at unedited =
    found.1 since.project since.known
    ∙ ap (fresh_of (project_facts since.project)) (bytes_at_index since.project number f since.ordered (ap (λ paths. slice_get paths number) (sym since.known.files.paths) ∙ at))
    ∙ (λ i. fresh_of (sym since.facts i) (sym (since.same f unedited) i))

-- errors that aren't thrown away and needn't wait may be worked in
may_land : (s : State) (f : Path) → may_drop s f ≡ false → must_wait s f ≡ false → may_work s f ≡ true
may_land s f kept ready = sym (ap (λ b. b || (must_wait s f || may_work s f)) kept ∙ ap (λ b. b || may_work s f) ready) ∙ landing s f

-- an item of a file that is worked in makes the machine's step
pub item_lands : (d : Documents) (phase : Phase) (rows left : List PathRow) (epoch : ℕ) (stale seen : Bool) (owing : Option Id) (ended : Option EndCause)
    → (index : ℕ) (f : Path) (item : Item) (landed : Landed)
    → IsOrdered rows → may_drop (state_of d phase rows epoch stale seen owing ended) f ≡ false → must_wait (state_of d phase rows epoch stale seen owing ended) f ≡ false
    → (at : IsEntryOf f rows index) → item.list ≡ fresh d.project f → WorksIn d epoch (f, at.0) item.list rows left landed
    → LandsAt (state_of d phase rows epoch stale seen owing ended) (state_of d phase left epoch stale false owing ended) f item landed
item_lands d phase rows left epoch stale seen owing ended index f item landed order kept ready at found works =
    subst (LandsAt (state_of d phase rows epoch stale seen owing ended) (state_of d phase left epoch stale false owing ended) f item) (sym works.landed_is)
    (by works.shown (worked_makes d phase rows left epoch stale seen owing ended index (f, at.0) item.list works.shown order at.1
    (may_land (state_of d phase rows epoch stale seen owing ended) f kept ready) found works.due works.left_is))
  where
    by : (b : Bool) → Makes (state_of d phase rows epoch stale seen owing ended) (state_of d phase left epoch stale false owing ended) (Work f epoch item.list b) (out_for d f epoch item.list b)
        → LandsAt (state_of d phase rows epoch stale seen owing ended) (state_of d phase left epoch stale false owing ended) f item (landed_by d f epoch item.list b)
    by true makes = (kept, (refl, refl), makes)
    by false makes = (kept, (refl, refl), makes)
