-- What a core tells, and what each of its calls does.
use Rattle.std.specs.Prelude.{◌≡◌, ◌≢◌, ◌⊎◌, ℕ, ◌+◌, ◌-◌, ◌^◌, min, Bool, true, false, not, ◌&&◌, ◌||◌, List, [], map, Option, Some, None, is_none, slice_get, unwrap_or, IsTrue, IsFalse, if◌then◌else◌}
use Rattle.std.specs.Option.{option_map}
use Rattle.srb_check.specs.Checks.{fresh}
use Rattle.srb_check.specs.FactLists.{same_facts}
use Rattle.srb_check.specs.Jobs.{IsJobOf, Known, facts_in}
use Rattle.srb_check.specs.Symbols.{project_facts}
use Rattle.srb_terms.specs.PathMaps.{IsEntryOf}
use Rattle.srb_terms.specs.Projects.{IsProject, bytes_at}
use Rattle.srb_terms.specs.declared.diag.Diag.{Diag}
use Rattle.lsp_msg.specs.declared.id.Id.{Id}
use Rattle.lsp_msg.specs.declared.out.Out.{Out}
use Rattle.lsp_msg.specs.declared.out.Out.TheVariants as out
use Rattle.run_watch.specs.declared.end_cause.EndCause.{EndCause}
use Rattle.run_watch.specs.declared.inp.Inp.{Inp}
use Rattle.run_watch.specs.declared.inp.Inp.TheVariants.{Msg, End}
use Rattle.run_watch.specs.declared.step.Step.{Step}
use Rattle.run_watch.specs.declared.step.Step.TheVariants as steps
use Rattle.run_watch.specs.declared.step.Step.TheVariants.{Work}
use Rattle.run_queues.specs.declared.item.Item.{Item}
use Rattle.lsp_docs.specs.Paths.{Path, has, is_before}
use Rattle.lsp_docs.specs.Projects.{Project, Edit, paths_of}
use Rattle.lsp_docs.specs.Documents.{Documents, after_deed, placed, uri_of}
use Rattle.lsp_docs.specs.Documents.Deed.{Edits}
use Rattle.lsp_docs.specs.Rows.{planned}
use Rattle.lsp_docs.specs.declared.plan.Plan.{Plan}
use Rattle.lsp_docs.specs.Uris.{is_empty}
use Rattle.run_core.specs.Language.{Language}
use Rattle.run_core.specs.Sessions.{Phase, Waiting, Serving, Closing}
use Rattle.run_core.specs.Rows.{PathRow, after_worked, lists_shown, marked, OwedAreAsked}
use Rattle.run_core.specs.declared.mark.Mark.TheVariants.{Present, Todo, Owed, Edited}
use Rattle.run_core.specs.declared.row.Row.{Row}
use Rattle.run_core.specs.declared.fate.Fate.{Fate}
use Rattle.run_core.specs.declared.fate.Fate.TheVariants.{Drop, Wait, Work as WorkOn}
use Rattle.run_core.specs.declared.landed.Landed.{Landed}
use Rattle.run_core.specs.declared.landed.Landed.TheVariants.{Shown, Quiet, Dropped, Later}
use Rattle.run_core.specs.Machine.{State, looked, may_drop, may_work, must_wait, after_taken_edit, Permits, next, written}

-- whether the file of an edit declares the same after it as before it
abbrev pub keeps_facts : Project → Edit → Bool
keeps_facts p e = same_facts (facts_in (bytes_at e.path p)) (facts_in e.now)

-- The language that is checked: the errors of a file are those of a fresh check, and an edit keeps the errors of the other
-- files where its file declares the same after it.
abbrev pub checked_language : Language
checked_language = record { fresh = fresh; keeps = keeps_facts }

-- What a core tells: its state, what is known of the project as it was at its last build, how many files it worked on by checks of its own
-- that weren't owed, and whether it took nothing since its last idle step, or ever.
pub record Account : Type 0 where
  pub state : State
  pub job : Known
  pub own_checks : ℕ
  pub idle : Bool

-- The step is permitted, and this is the state that it leaves and the message that it writes.
pub record Makes (old new : State) (step : Step) (answer : Option Out) : Type 0 where
  pub permitted : Permits checked_language old step
  pub made : new ≡ next checked_language old step
  pub answered : answer ≡ written old step

-- It is the least path in byte order that may be worked on.
pub record IsLeastOwn (s : State) (f : Path) : Type 0 where
  pub permitted : IsTrue (may_work s f)
  pub least : (g : Path) → IsTrue (may_work s g) → IsFalse (is_before g f)

-- the file to be worked on next is the least that may be, or none may be
abbrev pub IsNextOwn : State → Option Path → Type 0
IsNextOwn s None = (f : Path) → IsFalse (may_work s f)
IsNextOwn s (Some f) = IsLeastOwn s f

-- some file may be worked on
abbrev pub has_own : State → Bool
has_own s = looked s && not s.stale && not (is_empty s.todo)

-- The core works on a file: the least that it may, and `shown` is set or not.
abbrev pub IsWork : State → Bool → Step → Type 0
IsWork s shown (Work f epoch list is_shown) = IsLeastOwn s f × (is_shown ≡ shown)
IsWork s shown step = ⊥

-- What is handed back where the core checked a file itself: the step that was made, and its message exactly where it has one.
abbrev pub Lands : State → State → Landed → Type 0
Lands old new (Shown step out) = IsWork old true step × Makes old new step (Some out)
Lands old new (Quiet step) = IsWork old false step × Makes old new step None
Lands old new (Dropped step) = ⊥
Lands old new (Later item) = ⊥

-- the step works on this file, and `shown` is set or not
abbrev pub IsWorkOn : Path → Bool → Step → Type 0
IsWorkOn f shown (Work g epoch list is_shown) = (g ≡ f) × (is_shown ≡ shown)
IsWorkOn f shown step = ⊥

-- What is handed back where an item of this file landed: it is thrown away exactly where the machine permits that; else it waits exactly where
-- it must, and nothing is done; else the file was worked on.
abbrev pub LandsAt : State → State → Path → Item → Landed → Type 0
LandsAt old new f item (Shown step out) = IsFalse (may_drop old f) × IsWorkOn f true step × Makes old new step (Some out)
LandsAt old new f item (Quiet step) = IsFalse (may_drop old f) × IsWorkOn f false step × Makes old new step None
LandsAt old new f item (Dropped made) = (made ≡ steps.Dropped f) × Makes old new made None
LandsAt old new f item (Later back) = IsFalse (may_drop old f) × IsTrue (must_wait old f) × (back ≡ item) × (new ≡ old)

-- the same of the file whose number an item of a job has
abbrev pub LandsBy : Known → State → State → Item → Landed → Type 0
LandsBy job old new item landed = (f : Path) × (slice_get job.files.paths item.number ≡ Some f) × LandsAt old new f item landed

-- The number of files worked on that weren't owed, after one more file: owed files go first, so that file isn't owed
-- exactly where none is. The number stays at the greatest of 64 bits.
abbrev pub checks_after : Account → ℕ
checks_after a = if is_empty a.state.owed then min (a.own_checks + 1) (2 ^ 64 - 1) else a.own_checks

-- it took nothing since its last idle step, or ever, and owes no reply
abbrev pub is_idle : Account → Bool
is_idle a = a.idle && is_none a.state.owing

-- `shutdown` was accepted
abbrev pub is_closing : Phase → Bool
is_closing Waiting = false
is_closing Serving = false
is_closing Closing = true

-- the cause of the end that was taken, and whether `shutdown` was accepted before it
abbrev pub end_taken : State → Option (EndCause × Bool)
end_taken s = option_map (λ cause. (cause, is_closing s.session.phase)) s.ended

-- the end that an input tells
abbrev pub ended_by : Inp → Option EndCause
ended_by (Msg m) = None
ended_by (End cause) = Some cause

-- ---- how a core is kept

-- the state of these documents, rows and marks of a core
abbrev pub state_of : Documents → Phase → List PathRow → ℕ → Bool → Bool → Option Id → Option EndCause → State
state_of documents phase rows epoch stale seen owing ended = record {
  session = record { phase = phase; documents = documents };
  epoch = epoch;
  stale = stale;
  todo = marked Todo rows;
  owed = marked Owed rows;
  edited = marked Edited rows;
  shown = lists_shown rows;
  seen = seen;
  owing = owing;
  ended = ended;
}

-- `initialize` isn't accepted yet
abbrev pub is_waiting : Phase → Bool
is_waiting Waiting = true
is_waiting Serving = false
is_waiting Closing = false

-- What always holds of a core.
pub record IsCore (phase : Phase) (documents : Documents) (stale : Bool) (rows : List PathRow) (job : Known) : Type 0 where
  -- the rows know which files the project has
  pub paths : marked Present rows ≡ paths_of documents.project
  -- where nothing is stale each owed file is one to be worked on
  pub asked : stale ≡ false → OwedAreAsked rows
  -- before `initialize` nothing is stale or to be worked on
  pub waiting : is_waiting phase ≡ true → (stale ≡ false) × (marked Todo rows ≡ [])
  -- after it, where nothing is stale, the job is that of the project as it is now
  pub built : is_waiting phase ≡ false → stale ≡ false → IsJobOf documents.project job

-- Of the project as it was at the last build this is known: it has the facts of the project as it is now, and the same bytes in each file that wasn't edited since.
pub record IsOfBuild (documents : Documents) (rows : List PathRow) (last : Known) : Type 0 where
  pub project : Project
  pub ordered : IsProject project
  pub known : IsJobOf project last
  pub facts : project_facts documents.project ≡ project_facts project
  pub same : (f : Path) → IsFalse (has f (marked Edited rows)) → bytes_at f documents.project ≡ bytes_at f project

-- What always holds of a core and of what it knows of its last build: after `initialize`, where nothing is stale, that is of the last build.
pub record IsWholeCore (phase : Phase) (documents : Documents) (stale : Bool) (rows : List PathRow) (job last : Known) : Type 0 where
  pub core : IsCore phase documents stale rows job
  pub since : is_waiting phase ≡ false → stale ≡ false → IsOfBuild documents rows last

-- whether the file at the path declares the same in both projects
abbrev pub keeps_at : Path → Project → Project → Bool
keeps_at f old new = same_facts (facts_in (bytes_at f old)) (facts_in (bytes_at f new))

-- the state after an edit of the path that left these documents
abbrev pub after_edit_at : State → Documents → Path → Bool → State
after_edit_at s d f kept =
    record (after_taken_edit s kept f) { session = record { phase = s.session.phase; documents = d }; seen = false }

-- the state after an edit that was planned
abbrev pub after_plan : State → Plan → Bool → State
after_plan s plan kept = after_edit_at s (planned plan s.session.documents) plan.path kept

-- The second documents are those after an edit of the first, of this path.
pub record IsEdited (old new : Documents) (path : Path) : Type 0 where
  pub edit : Edit
  pub opened : List Path
  pub done : new ≡ after_deed old (Edits edit opened)
  pub named : path ≡ edit.path

-- The list found in a row's file has to be written: the file is owed, or it isn't the list written last.
abbrev pub IsDue : Row → List Diag → Bool → Type 0
IsDue r list true = IsTrue r.owed ⊎ (list ≢ unwrap_or r.shown [])
IsDue r list false = IsFalse r.owed × (list ≡ unwrap_or r.shown [])

-- what lands where a file was worked on, this list was found, and `shown` says whether it is written
abbrev pub landed_by : Documents → Path → ℕ → List Diag → Bool → Landed
landed_by d f epoch list true = Shown (Work f epoch list true)
    (out.List (uri_of d.agreed f) epoch (map (placed d.agreed.encoding (unwrap_or (bytes_at f d.project) [])) list))
landed_by d f epoch list false = Quiet (Work f epoch list false)

-- This list was found in the file of a row of these rows: whether it is written, what lands, and the rows that are left.
pub record WorksIn (documents : Documents) (epoch : ℕ) (row : PathRow) (list : List Diag) (rows left : List PathRow) (landed : Landed) : Type 0 where
  pub shown : Bool
  pub due : IsDue row.1 list shown
  pub landed_is : landed ≡ landed_by documents row.0 epoch list shown
  pub left_is : left ≡ after_worked row.0 (if shown then Some list else None) rows

-- what comes of errors of a file, by the rows, and by whether the inbox was looked at and the symbol table is stale
abbrev pub IsFate : List PathRow → Path → (is_looked stale : Bool) → Fate → Type 0
IsFate rows f is_looked stale Drop = IsTrue (stale || not (has f (marked Todo rows)) || has f (marked Edited rows))
IsFate rows f is_looked stale Wait =
    IsFalse (stale || not (has f (marked Todo rows)) || has f (marked Edited rows))
    × IsTrue (not is_looked || (not (has f (marked Owed rows)) && not (is_empty (marked Owed rows))))
IsFate rows f is_looked stale (WorkOn index) =
    IsFalse (stale || not (has f (marked Todo rows)) || has f (marked Edited rows))
    × IsFalse (not is_looked || (not (has f (marked Owed rows)) && not (is_empty (marked Owed rows))))
    × IsEntryOf f rows index
