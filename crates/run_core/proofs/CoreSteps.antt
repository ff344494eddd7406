-- What the calls of a core leave, as steps of the machine.
use Rattle.std.proofs.Common.{◌≡◌, ℕ, ◌+◌, ◌<◌, Bool, true, false, cond, not, ◌&&◌, ◌||◌, List, [], ◌∷◌, length, map, refl, inl, inr, ⊎_elim, sym, ap, ◌∙◌, subst, arith}
use Rattle.std.specs.Prelude.{◌≢◌, Option, Some, None, Result, Ok, bytes_eq, is_some, unwrap_or, IsNone}
use Rattle.std.specs.List.{slice_get}
use Rattle.std.specs.Option.{option_map, option_copied}
use denote.Bor.{Bor}
use Rattle.std.proofs.lemmas.Option.{slice_get_within}
use Rattle.std.specs.Ordering.{match_ordering}
use Rattle.std.specs.declared.cmp.Ordering.{Ordering}
use Rattle.std.specs.declared.cmp.Ordering.TheVariants.{Less, Equal, Greater}
use Rattle.srb_terms.specs.PathMaps.{path_cmp, put_value, IsOrdered}
use Rattle.srb_terms.specs.Projects.{bytes_at, put_file, IsProject}
use Rattle.srb_terms.specs.declared.diag.Diag.{Diag}
use Rattle.srb_terms.proofs.PathOrder.{same_path}
use Rattle.srb_check.specs.Checks.{fresh}
use Rattle.srb_check.specs.Jobs.{IsJobOf, IsJobWith, Known}
use Rattle.srb_check.specs.Symbols.{project_facts}
use Rattle.srb_check.proofs.FactLists.{same_facts-decides}
use Rattle.lsp_msg.specs.declared.id.Id.{Id}
use Rattle.lsp_msg.specs.declared.out.Out.{Out}
use Rattle.lsp_msg.specs.declared.out.Out.TheVariants as out
use Rattle.lsp_msg.specs.declared.msg.Msg.{Msg as Message}
use Rattle.lsp_msg.specs.declared.msg.Msg.TheVariants as msg
use Rattle.run_watch.specs.declared.end_cause.EndCause.{EndCause}
use Rattle.run_watch.specs.declared.inp.Inp.TheVariants.{Msg}
use Rattle.run_watch.specs.declared.step.Step.TheVariants.{Take, Build, Work}
use Rattle.lsp_docs.specs.declared.applied.Applied.{Applied}
use Rattle.lsp_docs.specs.declared.plan.Plan.{Plan}
use Rattle.lsp_docs.specs.Rows.{planned, present_of, reads}
use Rattle.lsp_docs.specs.declared.doc_end.DocEnd.{DocEnd}
use Rattle.lsp_docs.specs.Paths.{Path, Bytes, has, with_path, with_paths, without_path}
use Rattle.lsp_docs.specs.Projects.{Project, with_bytes, without_file, paths_of}
use Rattle.lsp_docs.specs.Documents.{Agreed, Documents, Deed, after_deed, applied, no_documents, placed, told_of, uri_of, IsAccepted}
use Rattle.lsp_docs.specs.Documents.Deed.{Edits, Saves}
use Rattle.lsp_docs.specs.Uris.{is_empty}
use Rattle.lsp_docs.proofs.PathLemmas.{other_path, bytes_at-with_bytes, length-without_had}
use Rattle.run_core.specs.declared.row.Row.{Row}
use Rattle.run_core.specs.declared.mark.Mark.TheVariants.{Present, Todo, Owed, Edited}
use Rattle.run_core.specs.Rows.{PathRow, marked, lists_shown, OwedAreAsked, after_edited, after_built, after_worked, next_index, opening_rows}
use Rattle.run_core.specs.Sessions.{Phase, Waiting, Serving, Closing, Session, told, told_by, method_of, when_serving, told_in, answer_of}
use Rattle.run_core.specs.declared.landed.Landed.{Landed}
use Rattle.run_core.specs.Machine.{State, IsShown, opening, project_of, looked, may_work, after_message, shown_of}
use Rattle.run_core.specs.Cores.{Account, Makes, IsCore, IsDue, IsEdited, IsWholeCore, WorksIn, IsLeastOwn, IsNextOwn, Lands}
use Rattle.run_core.specs.Cores.{after_edit_at, checked_language, has_own, is_waiting, keeps_at, landed_by, state_of}
use Rattle.run_core.proofs.KeptFacts.{here, keeps-at, kept_facts}
use Rattle.run_core.proofs.NextFile.{has-at, lookup-at, marked-sorted, may_parts, next_index-path, next_path-is, next_path-some, owed_asked}
use Rattle.run_core.proofs.RowMarks.{with_path-low, with_path-here, with_path-past, marked-put, marked-put-same, lists-put, lists-put-same, marked-built, marked-built-same, edited-built, lists-built}

some_same : {X : Type 0} {x y : X} → Some x ≡ Some y → x ≡ y
some_same {X} {x} same = ap (λ o. unwrap_or o x) same

none_ended : (o : Option EndCause) → IsNone o → is_some o ≡ false
none_ended None none = refl
none_ended (Some cause) none = grind (arith, none)

-- ---- the paths of a project after an edit

paths_of-put_file : (f : Path) (b : Bytes) (p : Project) → paths_of (put_file f b p) ≡ with_path f (paths_of p)
paths_of-put_file f b [] = refl
paths_of-put_file f b (file ∷ files) = by (path_cmp f file.0) refl (paths_of-put_file f b files)
  where
    by : (o : Ordering) → path_cmp f file.0 ≡ o → paths_of (put_file f b files) ≡ with_path f (paths_of files)
        → paths_of (match_ordering o ((f, b) ∷ file ∷ files) ((f, b) ∷ files) (file ∷ put_file f b files)) ≡ with_path f (file.0 ∷ paths_of files)
    by Less is ih = sym (with_path-low f file.0 (paths_of files) is)
    by Equal is ih = ap (λ g. g ∷ paths_of files) (same_path f file.0 is) ∙ sym (with_path-here f file.0 (paths_of files) is)
    by Greater is ih = ap (λ fs. file.0 ∷ fs) ih ∙ sym (with_path-past f file.0 (paths_of files) is)

paths_of-without_file : (f : Path) (p : Project) → paths_of (without_file f p) ≡ without_path f (paths_of p)
paths_of-without_file f [] = refl
paths_of-without_file f (file ∷ files) = by (bytes_eq f file.0) (paths_of-without_file f files)
  where
    by : (b : Bool) → paths_of (without_file f files) ≡ without_path f (paths_of files)
        → paths_of (cond b (without_file f files) (file ∷ without_file f files)) ≡ cond b (without_path f (paths_of files)) (file.0 ∷ without_path f (paths_of files))
    by true ih = ih
    by false ih = ap (λ fs. file.0 ∷ fs) ih

-- the rows know the paths after the edit
paths_edited : (f : Path) (now : Option Bytes) (p : Project) (kept : Bool) (rows : List PathRow) → IsOrdered rows → marked Present rows ≡ paths_of p
    → marked Present (after_edited f (is_some (bytes_at f (with_bytes f now p))) kept rows) ≡ paths_of (with_bytes f now p)
paths_edited f now p kept rows order known =
    ap (λ b. marked Present (after_edited f b kept rows)) (ap is_some (here f now p)) ∙ by now
  where
    by : (now : Option Bytes) → marked Present (after_edited f (is_some now) kept rows) ≡ paths_of (with_bytes f now p)
    by None = marked-put Present f _ rows order ∙ ap (without_path f) known ∙ sym (paths_of-without_file f p)
    by (Some b) = marked-put Present f _ rows order ∙ ap (with_path f) known ∙ sym (paths_of-put_file f b p)

-- the same of documents that were edited
edited_paths : (d new : Documents) (rows left : List PathRow) (f : Path) (present kept : Bool) → IsEdited d new f → IsOrdered rows
    → marked Present rows ≡ paths_of d.project → present ≡ is_some (bytes_at f new.project) → left ≡ after_edited f present kept rows
    → marked Present left ≡ paths_of new.project
edited_paths d new rows left f present kept edited order known has is =
    ap (marked Present) is
    ∙ ap (λ b. marked Present (after_edited f b kept rows)) has
    ∙ (λ i. marked Present (after_edited (edited.named i) (is_some (bytes_at (edited.named i) (edited.done i).project)) kept rows))
    ∙ paths_edited edited.edit.path edited.edit.now d.project kept rows order known
    ∙ sym (ap (λ (x : Documents). paths_of x.project) edited.done)

-- ---- messages about documents

-- what is done with a message that is accepted or refused
told_document : (s : Session) (m : Message) (r : Result Deed DocEnd) → s.phase ≡ Serving → applied s.documents m ≡ Some r → told s m ≡ told_by (method_of m) r
told_document s m r serving is = ap (λ p. told_in p s.documents m) serving ∙ by m is
  where
    by : (m : Message) → applied s.documents m ≡ Some r → when_serving s.documents m ≡ told_by (method_of m) r
    by (msg.Opened uri text) is = ap (told_by (method_of (msg.Opened uri text))) (some_same is)
    by (msg.Changed uri changes) is = ap (told_by (method_of (msg.Changed uri changes))) (some_same is)
    by (msg.Saved uri) is = ap (told_by (method_of (msg.Saved uri))) (some_same is)
    by (msg.Closed uri) is = ap (told_by (method_of (msg.Closed uri))) (some_same is)
    by (msg.Initialize id root encodings) is = absurd (grind (arith, is))
    by (msg.Shutdown id) is = absurd (grind (arith, is))
    by msg.Exit is = absurd (grind (arith, is))
    by (msg.Unknown id) is = absurd (grind (arith, is))
    by msg.Ignored is = absurd (grind (arith, is))
    by (msg.BadParams method id) is = absurd (grind (arith, is))
    by (msg.Bad code id) is = absurd (grind (arith, is))

abbrev plain_state : Documents → Phase → ℕ → Bool → List Path → List Path → List Path → List (Path × List Diag) → Bool → Option Id → Option EndCause → State
plain_state d phase epoch stale todo owed edited shown seen owing ended = record {
  session = record { phase = phase; documents = d };
  epoch = epoch;
  stale = stale;
  todo = todo;
  owed = owed;
  edited = edited;
  shown = shown;
  seen = seen;
  owing = owing;
  ended = ended;
}

edited_state : (new : Documents) (phase : Phase) (epoch : ℕ) (owing : Option Id) (ended : Option EndCause) {stale stale2 : Bool}
    → {todo todo2 owed owed2 edited edited2 : List Path} {shown shown2 : List (Path × List Diag)}
    → stale ≡ stale2 → todo ≡ todo2 → owed ≡ owed2 → edited ≡ edited2 → shown ≡ shown2
    → plain_state new phase epoch stale todo owed edited shown false owing ended ≡ plain_state new phase epoch stale2 todo2 owed2 edited2 shown2 false owing ended
edited_state new phase epoch owing ended b t o e s = λ i. plain_state new phase epoch (b i) (t i) (o i) (e i) (s i) false owing ended

built_state : (d : Documents) (phase : Phase) (epoch : ℕ) (seen : Bool) (owing : Option Id) (ended : Option EndCause)
    → {todo todo2 owed owed2 edited edited2 : List Path} {shown shown2 : List (Path × List Diag)}
    → todo ≡ todo2 → owed ≡ owed2 → edited ≡ edited2 → shown ≡ shown2
    → plain_state d phase epoch false todo owed edited shown seen owing ended ≡ plain_state d phase epoch false todo2 owed2 edited2 shown2 seen owing ended
built_state d phase epoch seen owing ended t o e s = λ i. plain_state d phase epoch false (t i) (o i) (e i) (s i) seen owing ended

-- the documents of an accepted edit
pub edited_by : (d new : Documents) (m : Message) (a : Applied) → IsAccepted d m new a → a.edit ≡ true → IsEdited d new a.path
edited_by d new m a accepted edits = by accepted.deed accepted.done accepted.told
  where
    by : (deed : Deed) → new ≡ after_deed d deed → a ≡ told_of deed → IsEdited d new a.path
    by (Saves f) done told = absurd (grind (arith, sym edits ∙ ap (λ (x : Applied). x.edit) told))
    by (Edits e opened) done told = record { edit = e; opened = opened; done = done; named = ap (λ (x : Applied). x.path) told }

-- an accepted edit makes the machine's step
pub edit_makes : (s t : State) (new : Documents) (m : Message) (a : Applied) → s.session.phase ≡ Serving → IsNone s.ended
    → IsAccepted s.session.documents m new a → a.edit ≡ true → t ≡ after_edit_at s new a.path (keeps_at a.path (project_of s) new.project)
    → Makes s t (Take (Msg m)) None
edit_makes s t new m a serving unended accepted edits is = by accepted.deed accepted.accepted accepted.done accepted.told
  where
    by : (deed : Deed) → applied s.session.documents m ≡ Some (Ok deed) → new ≡ after_deed s.session.documents deed → a ≡ told_of deed
        → Makes s t (Take (Msg m)) None
    by (Saves f) accepted done told = absurd (grind (arith, sym edits ∙ ap (λ (x : Applied). x.edit) told))
    by (Edits e opened) accepted done told =
        let told_is = told_document s.session m (Ok (Edits e opened)) serving accepted in
        let path : a.path ≡ e.path = ap (λ (x : Applied). x.path) told in
        let after : Documents = after_deed s.session.documents (Edits e opened) in
        record {
          permitted = none_ended s.ended unended;
          made = is
              ∙ (λ i. after_edit_at s (done i) (path i) (keeps_at (path i) (project_of s) (done i).project))
              ∙ ap (after_edit_at s after e.path) (keeps-at (project_of s) e)
              ∙ sym (ap (after_message checked_language s) told_is);
          answered = sym (ap answer_of told_is);
        }

-- the rows and marks after an edit that keeps the symbol table
pub kept_state : (d new : Documents) (phase : Phase) (rows left : List PathRow) (epoch : ℕ) (stale seen : Bool) (owing : Option Id) (ended : Option EndCause) (f : Path) (present : Bool)
    → IsOrdered rows → left ≡ after_edited f present true rows
    → state_of new phase left (epoch + 1) stale false owing ended ≡ after_edit_at (state_of d phase rows epoch stale seen owing ended) new f true
kept_state d new phase rows left epoch stale seen owing ended f present order is =
    edited_state new phase (epoch + 1) owing ended refl
    (ap (marked Todo) is ∙ marked-put Todo f _ rows order)
    (ap (marked Owed) is ∙ marked-put Owed f _ rows order)
    (ap (marked Edited) is ∙ marked-put Edited f _ rows order)
    (ap lists_shown is ∙ lists-put-same f _ rows order refl)

-- the same where the symbol table is stale after it
pub changed_state : (d new : Documents) (phase : Phase) (rows left : List PathRow) (epoch : ℕ) (stale seen : Bool) (owing : Option Id) (ended : Option EndCause) (f : Path) (present kept : Bool)
    → IsOrdered rows → left ≡ after_edited f present kept rows → (not kept || stale) ≡ true
    → state_of new phase left (epoch + 1) true false owing ended ≡ after_edit_at (state_of d phase rows epoch stale seen owing ended) new f kept
changed_state d new phase rows left epoch stale seen owing ended f present true order is due =
    ap (λ b. state_of new phase left (epoch + 1) b false owing ended) (sym due)
    ∙ kept_state d new phase rows left epoch stale seen owing ended f present order is
changed_state d new phase rows left epoch stale seen owing ended f present false order is due =
    edited_state new phase (epoch + 1) owing ended refl
    (ap (marked Todo) is ∙ marked-put-same Todo f _ rows order refl)
    (ap (marked Owed) is ∙ marked-put Owed f _ rows order)
    (ap (marked Edited) is ∙ marked-put Edited f _ rows order)
    (ap lists_shown is ∙ lists-put-same f _ rows order refl)

pub not_both_ways : {X : Type 0} (b : Bool) → b ≡ true → b ≡ false → X
not_both_ways true e d = absurd (grind (arith, d))
not_both_ways false e d = absurd (grind (arith, e))

-- what holds of a core after an edit that leaves the symbol table stale
pub changed_core : (phase : Phase) (d new : Documents) (rows left : List PathRow) (job : Known) (f : Path) (present kept : Bool)
    → phase ≡ Serving → IsEdited d new f → IsOrdered rows → marked Present rows ≡ paths_of d.project → present ≡ is_some (bytes_at f new.project)
    → left ≡ after_edited f present kept rows → IsCore phase new true left job
changed_core phase d new rows left job f present kept serving edited order known has is = record {
  paths = edited_paths d new rows left f present kept edited order known has is;
  asked = λ no. absurd (grind (arith, no));
  waiting = λ yes. not_both_ways (is_waiting phase) yes (ap is_waiting serving);
  built = λ begun no. absurd (grind (arith, no));
}

-- where each owed file is to be worked on, it is so after a row was put of which that holds
put_asked : (f : Path) (v : Row) (rows : List PathRow) → (v.owed ≡ true → v.todo ≡ true) → OwedAreAsked rows → OwedAreAsked (put_value f v rows)
put_asked f v [] also asked = (also, tt)
put_asked f v (r ∷ rs) also asked = by (path_cmp f r.0) (put_asked f v rs also asked.1)
  where
    by : (o : Ordering) → OwedAreAsked (put_value f v rs) → OwedAreAsked (match_ordering o ((f, v) ∷ r ∷ rs) ((f, v) ∷ rs) (r ∷ put_value f v rs))
    by Less rest = (also, asked)
    by Equal rest = (also, asked.1)
    by Greater rest = (asked.0, rest)

-- what holds of a core after an edit that keeps the symbol table, which isn't stale
pub kept_core : (phase : Phase) (d new : Documents) (stale : Bool) (rows left : List PathRow) (before job : Known) (f : Path) (present : Bool)
    → phase ≡ Serving → IsEdited d new f → IsOrdered rows → IsCore phase d stale rows before → present ≡ is_some (bytes_at f new.project)
    → left ≡ after_edited f present true rows → IsJobOf new.project job → IsCore phase new stale left job
kept_core phase d new stale rows left before job f present serving edited order core has is built = record {
  paths = edited_paths d new rows left f present true edited order core.paths has is;
  asked = λ e. subst OwedAreAsked (sym is) (put_asked f _ rows (λ owed. refl) (core.asked e));
  waiting = λ yes. not_both_ways (is_waiting phase) yes (ap is_waiting serving);
  built = λ begun e. built;
}

-- the job of a core that isn't stale is that of the project
pub serving_built : (phase : Phase) (d : Documents) (stale : Bool) (rows : List PathRow) (job : Known) → phase ≡ Serving → stale ≡ false → IsCore phase d stale rows job
    → IsJobOf d.project job
serving_built phase d stale rows job serving fresh core = core.built (ap is_waiting serving) fresh

-- whether the symbol table stays
pub stays_both : (kept stale : Bool) → (kept && not stale) ≡ true → (kept ≡ true) × (stale ≡ false)
stays_both true true e = absurd (grind (arith, e))
stays_both true false e = (refl, refl)
stays_both false stale e = absurd (grind (arith, e))

pub stays_not : (kept stale : Bool) → (kept && not stale) ≡ false → (not kept || stale) ≡ true
stays_not true true e = refl
stays_not true false e = absurd (grind (arith, e))
stays_not false stale e = refl

-- there is a record exactly where there are bytes
pub some_loaded : {R : Type 0} (load : Bytes → R) (bytes : Option Bytes) → is_some (option_map load bytes) ≡ is_some bytes
some_loaded load None = refl
some_loaded load (Some b) = refl

-- the facts of the project after such an edit, and its other files
pub edited_facts : (d new : Documents) (f : Path) → IsEdited d new f → IsProject d.project → keeps_at f d.project new.project ≡ true
    → project_facts new.project ≡ project_facts d.project
edited_facts d new f edited order keeps =
    ap (λ (x : Documents). project_facts x.project) edited.done
    ∙ kept_facts d.project edited.edit.path edited.edit.now order
    ((same_facts-decides _ _).0 (sym (keeps-at d.project edited.edit) ∙ sym (λ i. keeps_at (edited.named i) d.project (edited.done i).project) ∙ keeps))

-- what the project has at the path of a plan after it
pub planned_here : (plan : Plan) (d : Documents) → bytes_at plan.path (planned plan d).project ≡ reads present_of plan.kept
planned_here plan d = here plan.path (reads present_of plan.kept) d.project

pub edited_others : (d new : Documents) (f g : Path) (bytes : Bytes) (job : Known) → IsEdited d new f → IsProject d.project → IsJobOf d.project job
    → g ≢ f → bytes_at g new.project ≡ Some bytes → IsJobWith g bytes job
edited_others d new f g bytes job edited order known differs is = record {
  project = d.project;
  ordered = order;
  known = known;
  here = sym (bytes_at-with_bytes g edited.edit.path edited.edit.now d.project
      ∙ ap (λ b. cond b edited.edit.now (bytes_at g d.project)) (other_path g edited.edit.path (λ same. differs (same ∙ sym edited.named))))
      ∙ sym (ap (λ (x : Documents). bytes_at g x.project) edited.done) ∙ is;
}

-- ---- a build

pub built_asked : (rows : List PathRow) → OwedAreAsked (after_built rows)
built_asked [] = tt
built_asked (r ∷ rs) = (by r.1.present r.1.owed, built_asked rs)
  where
    by : (p o : Bool) → o ≡ true → (p || o) ≡ true
    by true o e = refl
    by false o e = e

pub built_core : (phase : Phase) (d : Documents) (stale : Bool) (rows : List PathRow) (before job : Known) → IsCore phase d stale rows before → stale ≡ true
    → IsJobOf d.project job → IsCore phase d false (after_built rows) job
built_core phase d stale rows before job core due built = record {
  paths = marked-built-same Present rows (λ r. refl) ∙ core.paths;
  asked = λ e. built_asked rows;
  waiting = λ yes. not_both_ways stale due (core.waiting yes).0;
  built = λ begun e. built;
}

pub build_makes : (d : Documents) (phase : Phase) (rows left : List PathRow) (epoch : ℕ) (stale seen : Bool) (owing : Option Id) (ended : Option EndCause)
    → (looked (state_of d phase rows epoch stale seen owing ended) && stale) ≡ true → IsOrdered rows → marked Present rows ≡ paths_of d.project → left ≡ after_built rows
    → Makes (state_of d phase rows epoch stale seen owing ended) (state_of d phase left epoch false seen owing ended) Build None
build_makes d phase rows left epoch stale seen owing ended ready order known is = record {
  permitted = ready;
  made = ap (λ rs. state_of d phase rs epoch false seen owing ended) is
      ∙ built_state d phase epoch seen owing ended
      (marked-built rows order ∙ ap (λ fs. with_paths fs (marked Owed rows)) known)
      (marked-built-same Owed rows (λ r. refl)) (edited-built rows) (lists-built rows);
  answered = refl;
}

-- ---- the rows of a project before any step

opening-present : (p : Project) → marked Present (opening_rows p) ≡ paths_of p
opening-present [] = refl
opening-present (file ∷ files) = ap (λ fs. file.0 ∷ fs) (opening-present files)

pub opening-none : (p : Project) → (marked Todo (opening_rows p) ≡ []) × (marked Owed (opening_rows p) ≡ []) × (marked Edited (opening_rows p) ≡ []) × (lists_shown (opening_rows p) ≡ [])
opening-none [] = (refl, refl, refl, refl)
opening-none (file ∷ files) = opening-none files

opening-asked : (p : Project) → OwedAreAsked (opening_rows p)
opening-asked [] = tt
opening-asked (file ∷ files) = ((λ e. e), opening-asked files)

pub opening_core : (p : Project) (job : Known) → IsCore Waiting (no_documents p) false (opening_rows p) job
opening_core p job = record {
  paths = opening-present p;
  asked = λ e. opening-asked p;
  waiting = λ yes. (refl, (opening-none p).0);
  built = λ begun e. absurd (grind (arith, begun));
}

pub opening_state : (p : Project) → state_of (no_documents p) Waiting (opening_rows p) 0 false false None None ≡ opening p
opening_state p = let none = opening-none p in built_state (no_documents p) Waiting 0 false None None none.0 none.1 none.2 none.3

-- ---- the file that is next

ready_parts : (a b c : Bool) → (a && b && c) ≡ true → ((a && b) ≡ true) × (b ≡ true) × (c ≡ true)
ready_parts true true true e = (refl, refl, refl)
ready_parts true true false e = absurd (grind (arith, e))
ready_parts true false c e = absurd (grind (arith, e))
ready_parts false b c e = absurd (grind (arith, e))

not_true : (b : Bool) → not b ≡ true → b ≡ false
not_true true e = absurd (grind (arith, e))
not_true false e = refl

-- where some file is to be worked on, `initialize` is accepted
pub begun_asked : (phase : Phase) (stale : Bool) (todo : List Path) → (is_waiting phase ≡ true → (stale ≡ false) × (todo ≡ [])) → not (is_empty todo) ≡ true
    → is_waiting phase ≡ false
begun_asked phase stale todo waiting some = by (is_waiting phase) refl
  where
    by : (b : Bool) → is_waiting phase ≡ b → b ≡ false
    by false is = refl
    by true is = absurd (let none = ap (λ l. not (is_empty l)) (waiting is).1 in grind (arith, none, some))

pub own_begun : {job : Known} (d : Documents) (phase : Phase) (rows : List PathRow) (epoch : ℕ) (stale seen : Bool) (owing : Option Id) (ended : Option EndCause)
    → IsCore phase d stale rows job → has_own (state_of d phase rows epoch stale seen owing ended) ≡ true → is_waiting phase ≡ false
own_begun d phase rows epoch stale seen owing ended core own =
    let parts = ready_parts (looked (state_of d phase rows epoch stale seen owing ended)) (not stale) (not (is_empty (marked Todo rows))) own in
    begun_asked phase stale (marked Todo rows) core.waiting parts.2

-- where some file may be worked on, the job is that of the project
pub own_built : {job : Known} (d : Documents) (phase : Phase) (rows : List PathRow) (epoch : ℕ) (stale seen : Bool) (owing : Option Id) (ended : Option EndCause)
    → IsCore phase d stale rows job → has_own (state_of d phase rows epoch stale seen owing ended) ≡ true → IsJobOf d.project job
own_built d phase rows epoch stale seen owing ended core own =
    let parts = ready_parts (looked (state_of d phase rows epoch stale seen owing ended)) (not stale) (not (is_empty (marked Todo rows))) own in
    core.built (begun_asked phase stale (marked Todo rows) core.waiting parts.2) (not_true stale parts.1)

-- the row at the next index is that of the next file
pub next_row-is : {job : Known} (d : Documents) (phase : Phase) (rows : List PathRow) (epoch : ℕ) (stale seen : Bool) (owing : Option Id) (ended : Option EndCause)
    → IsCore phase d stale rows job → IsOrdered rows → (looked (state_of d phase rows epoch stale seen owing ended) && not stale) ≡ true
    → IsNextOwn (state_of d phase rows epoch stale seen owing ended) (option_map (λ (r : PathRow). r.0) (slice_get rows (next_index rows)))
next_row-is d phase rows epoch stale seen owing ended core order ready =
    subst (IsNextOwn (state_of d phase rows epoch stale seen owing ended)) (sym (next_index-path rows))
    (next_path-is (state_of d phase rows epoch stale seen owing ended) ready (marked-sorted Todo rows order) (marked-sorted Owed rows order)
    (λ f. owed_asked f rows (core.asked (not_true stale (right_true (looked (state_of d phase rows epoch stale seen owing ended)) (not stale) ready)))))
  where
    right_true : (a b : Bool) → (a && b) ≡ true → b ≡ true
    right_true true b e = e
    right_true false b e = absurd (grind (arith, e))

-- there is one exactly where some file may be worked on
pub next_row-some : (rows : List PathRow) → OwedAreAsked rows → is_some (slice_get rows (next_index rows)) ≡ not (is_empty (marked Todo rows))
next_row-some rows asked =
    by (slice_get rows (next_index rows)) ∙ ap is_some (next_index-path rows) ∙ next_path-some (marked Owed rows) (marked Todo rows) (λ f. owed_asked f rows asked)
  where
    by : (o : Option PathRow) → is_some o ≡ is_some (option_map (λ (r : PathRow). r.0) o)
    by None = refl
    by (Some r) = refl

pub has_own-some : {job : Known} (d : Documents) (phase : Phase) (rows : List PathRow) (epoch : ℕ) (stale seen : Bool) (owing : Option Id) (ended : Option EndCause)
    → IsCore phase d stale rows job → has_own (state_of d phase rows epoch stale seen owing ended) ≡ true → is_some (slice_get rows (next_index rows)) ≡ true
has_own-some d phase rows epoch stale seen owing ended core own =
    let parts = ready_parts (looked (state_of d phase rows epoch stale seen owing ended)) (not stale) (not (is_empty (marked Todo rows))) own in
    next_row-some rows (core.asked (not_true stale parts.1)) ∙ parts.2

some_within : (rows : List PathRow) (i : ℕ) → is_some (slice_get rows i) ≡ true → i < length rows
some_within rows i some = by (slice_get rows i) refl some
  where
    by : (o : Option PathRow) → slice_get rows i ≡ o → is_some o ≡ true → i < length rows
    by None is e = absurd (grind (arith, e))
    by (Some r) is e = slice_get_within rows i r is

pub has_own-within : {job : Known} (d : Documents) (phase : Phase) (rows : List PathRow) (epoch : ℕ) (stale seen : Bool) (owing : Option Id) (ended : Option EndCause)
    → IsCore phase d stale rows job → has_own (state_of d phase rows epoch stale seen owing ended) ≡ true → next_index rows < length rows
has_own-within d phase rows epoch stale seen owing ended core own =
    some_within rows (next_index rows) (has_own-some d phase rows epoch stale seen owing ended core own)

-- ---- work on a file

pub worked_core : (phase : Phase) (d : Documents) (stale : Bool) (rows left : List PathRow) (job : Known) (f : Path) (list : Option (List Diag)) → IsCore phase d stale rows job
    → IsOrdered rows → is_waiting phase ≡ false → IsJobOf d.project job → left ≡ after_worked f list rows → IsCore phase d stale left job
worked_core phase d stale rows left job f list core order begun built is = record {
  paths = ap (marked Present) is ∙ marked-put-same Present f _ rows order refl ∙ core.paths;
  asked = λ e. subst OwedAreAsked (sym is) (put_asked f _ rows (λ owed. owed) (core.asked e));
  waiting = λ yes. not_both_ways (is_waiting phase) yes begun;
  built = λ b e. built;
}

worked_state : (d : Documents) (phase : Phase) (epoch : ℕ) (stale : Bool) (owing : Option Id) (ended : Option EndCause)
    → {todo todo2 owed owed2 edited edited2 : List Path} {shown shown2 : List (Path × List Diag)}
    → todo ≡ todo2 → owed ≡ owed2 → edited ≡ edited2 → shown ≡ shown2
    → plain_state d phase epoch stale todo owed edited shown false owing ended ≡ plain_state d phase epoch stale todo2 owed2 edited2 shown2 false owing ended
worked_state d phase epoch stale owing ended t o e s = λ i. plain_state d phase epoch stale (t i) (o i) (e i) (s i) false owing ended

-- whether the list found is written
shown_rightly : (s : State) (row : PathRow) (list : List Diag) (shown : Bool)
    → has row.0 s.owed ≡ row.1.owed → shown_of s row.0 ≡ unwrap_or row.1.shown [] → IsDue row.1 list shown → IsShown s row.0 list shown
shown_rightly s row list true owed last due = ⊎_elim (λ e. inl (owed ∙ e)) (λ other. inr (λ same. other (same ∙ last))) due
shown_rightly s row list false owed last due = (owed ∙ due.0, due.1 ∙ sym last)

-- the file of the next row is the one that may be worked on
least_own : {job : Known} (d : Documents) (phase : Phase) (rows : List PathRow) (epoch : ℕ) (stale seen : Bool) (owing : Option Id) (ended : Option EndCause) (row : PathRow)
    → IsCore phase d stale rows job → IsOrdered rows → has_own (state_of d phase rows epoch stale seen owing ended) ≡ true → slice_get rows (next_index rows) ≡ Some row
    → IsLeastOwn (state_of d phase rows epoch stale seen owing ended) row.0
least_own d phase rows epoch stale seen owing ended row core order own is =
    let parts = ready_parts (looked (state_of d phase rows epoch stale seen owing ended)) (not stale) (not (is_empty (marked Todo rows))) own in
    subst (λ (o : Option PathRow). IsNextOwn (state_of d phase rows epoch stale seen owing ended) (option_map (λ (r : PathRow). r.0) o)) is
    (next_row-is d phase rows epoch stale seen owing ended core order parts.0)

-- fewer files are to be worked on then
pub worked_fewer : {job : Known} (d : Documents) (phase : Phase) (rows left : List PathRow) (epoch : ℕ) (stale seen : Bool) (owing : Option Id) (ended : Option EndCause)
    → (row : PathRow) (list : Option (List Diag))
    → IsCore phase d stale rows job → IsOrdered rows → has_own (state_of d phase rows epoch stale seen owing ended) ≡ true → slice_get rows (next_index rows) ≡ Some row
    → left ≡ after_worked row.0 list rows → length (marked Todo left) < length (marked Todo rows)
worked_fewer d phase rows left epoch stale seen owing ended row list core order own is left_is =
    let least = least_own d phase rows epoch stale seen owing ended row core order own is in
    let s : State = state_of d phase rows epoch stale seen owing ended in
    let had = (may_parts (looked s && not stale) (has row.0 s.todo) (has row.0 s.owed || is_empty s.owed) least.permitted).0 in
    let todo = ap (marked Todo) left_is ∙ marked-put Todo row.0 _ rows order in
    let fewer = length-without_had row.0 (marked Todo rows) had in
    let size = ap length todo in
    omega (arith, fewer, size)

-- the message of a file that was worked on, if it is to be written
abbrev pub out_for : Documents → Path → ℕ → List Diag → Bool → Option Out
out_for d f epoch list true = Some (out.List (uri_of d.agreed f) epoch (map (placed d.agreed.encoding (unwrap_or (bytes_at f d.project) [])) list))
out_for d f epoch list false = None

-- the rows and the mark after a file was worked on make the machine's step
pub worked_makes : (d : Documents) (phase : Phase) (rows left : List PathRow) (epoch : ℕ) (stale seen : Bool) (owing : Option Id) (ended : Option EndCause)
    → (i : ℕ) (row : PathRow) (list : List Diag) (shown : Bool)
    → IsOrdered rows → slice_get rows i ≡ Some row → may_work (state_of d phase rows epoch stale seen owing ended) row.0 ≡ true → list ≡ fresh d.project row.0
    → IsDue row.1 list shown → left ≡ after_worked row.0 (cond shown (Some list) None) rows
    → Makes (state_of d phase rows epoch stale seen owing ended) (state_of d phase left epoch stale false owing ended) (Work row.0 epoch list shown) (out_for d row.0 epoch list shown)
worked_makes d phase rows left epoch stale seen owing ended i row list shown order is may found due left_is =
    by shown (shown_rightly (state_of d phase rows epoch stale seen owing ended) row list shown (has-at Owed rows i row order is)
    (ap (λ (o : Option (List Diag)). unwrap_or o []) (lookup-at rows i row order is)) due) left_is
  where
    by : (b : Bool) → IsShown (state_of d phase rows epoch stale seen owing ended) row.0 list b → left ≡ after_worked row.0 (cond b (Some list) None) rows
        → Makes (state_of d phase rows epoch stale seen owing ended) (state_of d phase left epoch stale false owing ended) (Work row.0 epoch list b) (out_for d row.0 epoch list b)
    by true rightly left_is = record {
      permitted = record { ready = may; now = refl; fresh = found; rightly = rightly };
      made = worked_state d phase epoch stale owing ended
          (ap (marked Todo) left_is ∙ marked-put Todo row.0 _ rows order)
          (ap (marked Owed) left_is ∙ marked-put Owed row.0 _ rows order)
          (ap (marked Edited) left_is ∙ marked-put-same Edited row.0 _ rows order refl)
          (ap lists_shown left_is ∙ lists-put row.0 list _ rows order refl);
      answered = refl;
    }
    by false rightly left_is = record {
      permitted = record { ready = may; now = refl; fresh = found; rightly = rightly };
      made = worked_state d phase epoch stale owing ended
          (ap (marked Todo) left_is ∙ marked-put Todo row.0 _ rows order)
          (ap (marked Owed) left_is ∙ marked-put Owed row.0 _ rows order)
          (ap (marked Edited) left_is ∙ marked-put-same Edited row.0 _ rows order refl)
          (ap lists_shown left_is ∙ lists-put-same row.0 _ rows order refl);
      answered = refl;
    }

pub worked_lands : {job : Known} (d : Documents) (phase : Phase) (rows left : List PathRow) (epoch : ℕ) (stale seen : Bool) (owing : Option Id) (ended : Option EndCause)
    → (i : ℕ) (row : PathRow) (list : List Diag) (landed : Landed)
    → IsCore phase d stale rows job → IsOrdered rows → has_own (state_of d phase rows epoch stale seen owing ended) ≡ true
    → i ≡ next_index rows → slice_get rows i ≡ Some row → list ≡ fresh d.project row.0 → WorksIn d epoch row list rows left landed
    → Lands (state_of d phase rows epoch stale seen owing ended) (state_of d phase left epoch stale false owing ended) landed
worked_lands d phase rows left epoch stale seen owing ended i row list landed core order own index is found works =
    subst (Lands (state_of d phase rows epoch stale seen owing ended) (state_of d phase left epoch stale false owing ended)) (sym works.landed_is)
    (by works.shown (worked_makes d phase rows left epoch stale seen owing ended i row list works.shown order is least.permitted found works.due works.left_is))
  where
    least : IsLeastOwn (state_of d phase rows epoch stale seen owing ended) row.0
    least = least_own d phase rows epoch stale seen owing ended row core order own (ap (slice_get rows) (sym index) ∙ is)

    by : (b : Bool) → Makes (state_of d phase rows epoch stale seen owing ended) (state_of d phase left epoch stale false owing ended) (Work row.0 epoch list b) (out_for d row.0 epoch list b)
        → Lands (state_of d phase rows epoch stale seen owing ended) (state_of d phase left epoch stale false owing ended) (landed_by d row.0 epoch list b)
    by true makes = ((least, refl), makes)
    by false makes = ((least, refl), makes)

-- ---- the phases of a core

pub begun_core : (d new : Documents) (agreed : Agreed) (phase : Phase) (stale : Bool) (rows : List PathRow) (job last : Known) → IsWholeCore phase d stale rows job last
    → new ≡ record d { agreed = agreed } → IsWholeCore Serving new true rows job last
begun_core d new agreed phase stale rows job last whole is = record {
  core = record {
    paths = whole.core.paths ∙ sym (ap (λ (x : Documents). paths_of x.project) is);
    asked = λ no. absurd (grind (arith, no));
    waiting = λ yes. absurd (grind (arith, yes));
    built = λ begun no. absurd (grind (arith, no));
  };
  since = λ begun no. absurd (grind (arith, no));
}

abbrev account : State → Known → ℕ → Bool → Account
account s last checks idle = record { state = s; job = last; own_checks = checks; idle = idle }

pub closing_core : (d : Documents) (phase : Phase) (rows : List PathRow) (epoch : ℕ) (stale seen : Bool) (owing : Option Id) (ended : Option EndCause)
    → (checks : ℕ) (idle : Bool) (job last : Known) (a : Account) → account (state_of d phase rows epoch stale seen owing ended) last checks idle ≡ a
    → a.state.session.phase ≡ Serving → IsWholeCore phase d stale rows job last → IsWholeCore Closing d stale rows job last
closing_core d phase rows epoch stale seen owing ended checks idle job last a view serving whole = record {
  core = record {
    paths = whole.core.paths;
    asked = whole.core.asked;
    waiting = λ yes. absurd (grind (arith, yes));
    built = λ begun fresh. whole.core.built (ap is_waiting (ap (λ (x : Account). x.state.session.phase) view ∙ serving)) fresh;
  };
  since = λ begun fresh. whole.since (ap is_waiting (ap (λ (x : Account). x.state.session.phase) view ∙ serving)) fresh;
}

-- ---- readings of a core

pub both : (a b : Bool) → a ≡ true → b ≡ true → (a && b) ≡ true
both a b e d = ap (λ x. x && b) e ∙ d

pub not_both : (a b : Bool) → b ≡ false → (a && b) ≡ false
not_both true b e = e
not_both false b e = refl

pub is_some-copied : {A : Type 0} (o : Option (Bor A)) → is_some o ≡ is_some (option_copied o)
is_some-copied None = refl
is_some-copied (Some x) = refl
