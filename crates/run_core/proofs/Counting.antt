-- The bound on the work of a run.
use Rattle.std.proofs.Common.{◌≡◌, ℕ, suc, zero, ◌+◌, ◌≤◌, Bool, true, false, ◌||◌, List, [], ◌∷◌, length, refl, sym, ap, ap₂, subst, ⊎_elim, arith, length-append}
use Rattle.std.specs.Prelude.{if◌then◌else◌}
use Rattle.std.proofs.lemmas.Bool.{and_parts, or_cases}
use Rattle.lsp_msg.specs.declared.msg.Msg.{Msg as Message}
use Rattle.lsp_docs.specs.Paths.{Path, has, without_path}
use Rattle.lsp_docs.specs.Projects.{Project, paths_of}
use Rattle.lsp_docs.proofs.PathLemmas.{length-with_path, length-without_had, length-with_paths, length-paths_of}
use Rattle.run_watch.specs.declared.step.Step.{Step}
use Rattle.run_watch.specs.declared.step.Step.TheVariants.{Take, Look, Build, Work, Dropped, Idle}
use Rattle.run_watch.specs.declared.inp.Inp.TheVariants.{Msg, End}
use Rattle.lsp_docs.specs.Uris.{is_empty}
use Rattle.run_core.specs.Language.{Language}
use Rattle.run_core.specs.Sessions.{Phase, Waiting, Serving, Closing, Session, Told, Nothing, Failed, Logged, Began, Edited, Kept, Ended, told, after_told}
use Rattle.run_core.specs.Histories.{History, no_history, edit_of, heard_as, heard, heard_all, edits_of}
use Rattle.run_core.specs.Machine.{State, opening, project_of, looked, after_taken_edit, after_message, next}
use Rattle.run_core.specs.Runs.{Leads, messages_in, Run}
use Rattle.run_core.specs.Counts.{works, builds, files_built, is_change, changes_in}
use Rattle.run_core.proofs.Histories.{Fits, told_fits}
use Rattle.run_core.proofs.Held.{may_work_parts, is_empty_nil}

-- so many files at most are owed, and to be worked on where nothing is stale
pub record Within (k : ℕ) (stale : Bool) (todo owed : List Path) : Type 0 where
  pub owed_within : length owed ≤ k
  pub todo_within : stale ≡ false → length todo ≤ k

abbrev pub IsWithin : ℕ → State → Type 0
IsWithin k s = Within k s.stale s.todo s.owed

within_edit : (s : State) (b : Bool) (f : Path) (k : ℕ) → IsWithin k s → IsWithin (k + 1) (after_taken_edit s b f)
within_edit s true f k w = record {
  owed_within = let a = length-with_path f s.owed in let b = w.owed_within in omega arith;
  todo_within = λ e. let a = length-with_path f s.todo in let b = w.todo_within e in omega arith;
}
within_edit s false f k w = record {
  owed_within = let a = length-with_path f s.owed in let b = w.owed_within in omega arith;
  todo_within = λ e. absurd cc;
}

within_take : (language : Language) (s : State) (t : Told) (k : ℕ) → IsWithin k s → IsWithin (k + length (edit_of t)) (after_message language s t)
within_take language s (Edited e opened) k w = within_edit s (language.keeps (project_of s) e) e.path k w
within_take language s (Began id agreed) k w = record { owed_within = let a = w.owed_within in omega arith; todo_within = λ e. absurd cc }
within_take language s Nothing k w = record { owed_within = let a = w.owed_within in omega arith; todo_within = λ e. let a = w.todo_within e in omega arith }
within_take language s (Failed id code) k w = record { owed_within = let a = w.owed_within in omega arith; todo_within = λ e. let a = w.todo_within e in omega arith }
within_take language s (Logged method reason) k w = record { owed_within = let a = w.owed_within in omega arith; todo_within = λ e. let a = w.todo_within e in omega arith }
within_take language s (Kept f) k w = record { owed_within = let a = w.owed_within in omega arith; todo_within = λ e. let a = w.todo_within e in omega arith }
within_take language s (Ended id) k w = record { owed_within = let a = w.owed_within in omega arith; todo_within = λ e. let a = w.todo_within e in omega arith }

within_build : (language : Language) (s : State) (k : ℕ) → IsWithin k s → IsWithin (k + length (project_of s)) (next language s Build)
within_build language s k w = record {
  owed_within = let a = w.owed_within in omega arith;
  todo_within = λ e.
      let a = w.owed_within in let b = length-with_paths (paths_of (project_of s)) s.owed in let c = length-paths_of (project_of s) in omega arith;
}

-- where a file is worked on, one fewer is owed, if any was
owed_work : (f : Path) (owed : List Path) (k : ℕ) → (has f owed || is_empty owed) ≡ true → length owed ≤ suc k → length (without_path f owed) ≤ k
owed_work f owed k first le = ⊎_elim
    (λ e. let a = length-without_had f owed e in omega arith)
    (λ e. subst (λ o. length (without_path f o) ≤ k) (sym (is_empty_nil owed e)) (omega arith))
    (or_cases _ _ first)

some_asked : (f : Path) (todo : List Path) → has f todo ≡ true → 1 ≤ length todo
some_asked f [] e = absurd cc
some_asked f (g ∷ gs) e = omega arith

edits_grow : (h : History) (t : Told) → length (heard_as h t).edits ≡ length h.edits + length (edit_of t)
edits_grow h t = length-append h.edits (edit_of t)

works_take : (language : Language) (base : Project) (s : State) (h : History) (t : Told) (k : ℕ) → IsWithin k s →
    IsWithin (k + length (edit_of t)) (after_message language s t)
works_take language base s h t k w = within_take language s t k w

-- the project that the state and the history have
abbrev pub SameProject : History → State → Type 0
SameProject h s = s.session ≡ h.session

same_project : (h : History) (s : State) → SameProject h s → length (project_of s) ≡ length h.session.documents.project
same_project h s same = ap (λ (x : Session). length x.documents.project) same

-- After a state in which so many files are owed, the steps that work are at most these, the edits, and the files of
-- each build.
works_within : (language : Language) (h : History) (s : State) (xs : List Step) (k : ℕ) → SameProject h s → Leads language s xs → IsWithin k s →
    works xs + length h.edits ≤ k + length (heard_all h (messages_in xs)).edits + files_built h xs
works_within language h s [] k same run w = omega arith
works_within language h s (Take (Msg m) ∷ xs) k same run w =
    let t = told s.session m in
    let here : told s.session m ≡ told h.session m = ap (λ x. told x m) same in
    let ih = works_within language (heard h m) (next language s (Take (Msg m))) xs (k + length (edit_of (told s.session m)))
    (ap₂ after_told same here) run.1 (within_take language s (told s.session m) k w) in
    let g = edits_grow h (told h.session m) in
    let e : length (edit_of (told s.session m)) ≡ length (edit_of (told h.session m)) = ap (λ x. length (edit_of x)) here in
    omega arith
works_within language h s (Take (End cause) ∷ xs) k same run w = works_within language h (next language s (Take (End cause))) xs k same run.1 w
works_within language h s (Look ∷ xs) k same run w = works_within language h (next language s Look) xs k same run.1 w
works_within language h s (Build ∷ xs) k same run w =
    let ih = works_within language h (next language s Build) xs (k + length (project_of s)) same run.1 (within_build language s k w) in
    let p = same_project h s same in
    omega arith
works_within language h s (Work f n list shown ∷ xs) zero same run w =
    let ready = may_work_parts s f run.0.ready in
    let a = w.todo_within ready.built in let b = some_asked f s.todo ready.asked in absurd (omega arith)
works_within language h s (Work f n list shown ∷ xs) (suc k) same run w =
    let ready = may_work_parts s f run.0.ready in
    let less : IsWithin k (next language s (Work f n list shown)) = record {
      owed_within = owed_work f s.owed k ready.first w.owed_within;
      todo_within = λ e. let a = length-without_had f s.todo ready.asked in let b = w.todo_within e in omega arith;
    } in
    let ih = works_within language h (next language s (Work f n list shown)) xs k same run.1 less in
    omega arith
works_within language h s (Dropped f ∷ xs) k same run w = works_within language h s xs k same run.1 w
works_within language h s (Idle ∷ xs) k same run w = works_within language h (next language s Idle) xs k same run.1 w

pub works_bound : (language : Language) (base : Project) (steps : List Step) → Run language base steps →
    works steps ≤ length (edits_of base (messages_in steps)) + files_built (no_history base) steps
works_bound language base steps run =
    let all = works_within language (no_history base) (opening base) steps 0 refl run (record { owed_within = omega arith; todo_within = λ e. omega arith }) in
    omega arith

-- ---- builds

-- one more build may come where the symbol table is stale
abbrev pub MayBuild : ℕ → Bool → Type 0
MayBuild b stale = stale ≡ true → 1 ≤ b

-- one more build may come for `initialize`
abbrev pub to_begin : Phase → ℕ
to_begin Waiting = 1
to_begin Serving = 0
to_begin Closing = 0

abbrev pub as_number : Bool → ℕ
as_number true = 1
as_number false = 0

-- what a message adds to the builds that may come
build_take : (language : Language) (s : State) (h : History) (t : Told) (b : ℕ) → SameProject h s → Fits h.session.phase t → MayBuild b s.stale →
    (c : ℕ) × (MayBuild c (after_message language s t).stale) × (c + to_begin (after_told h.session t).phase ≤ b + to_begin h.session.phase + as_number (is_change language h t))
build_take language s h (Began id agreed) b same f may = (1, λ e. omega arith, by_phase h.session.phase f)
  where
    by_phase : (p : Phase) → Fits p (Began id agreed) → 1 + 0 ≤ b + to_begin p + 0
    by_phase Waiting f = omega arith
    by_phase Serving f = absurd f
    by_phase Closing f = absurd f
build_take language s h (Ended id) b same f may = (b, may, omega arith)
build_take language s h Nothing b same f may = (b, may, omega arith)
build_take language s h (Failed id code) b same f may = (b, may, omega arith)
build_take language s h (Logged method reason) b same f may = (b, may, omega arith)
build_take language s h (Kept x) b same f may = (b, may, omega arith)
build_take language s h (Edited e opened) b same f may =
    by_keeps (language.keeps (project_of s) e) (language.keeps h.session.documents.project e)
    (ap (λ (x : Session). language.keeps x.documents.project e) same)
  where
    by_keeps : (k l : Bool) → k ≡ l →
        (c : ℕ) × (MayBuild c (after_taken_edit s k e.path).stale) × (c + to_begin h.session.phase ≤ b + to_begin h.session.phase + as_number (if l then false else true))
    by_keeps true true p = (b, may, omega arith)
    by_keeps false false p = (b + 1, λ e. omega arith, omega arith)
    by_keeps true false p = absurd cc
    by_keeps false true p = absurd cc

counted_change : (language : Language) (h : History) (m : Message) (ms : List Message) →
    changes_in language h (m ∷ ms) ≡ as_number (is_change language h (told h.session m)) + changes_in language (heard h m) ms
counted_change language h m ms = by_test (is_change language h (told h.session m)) (changes_in language (heard h m) ms)
  where
    by_test : (b : Bool) (n : ℕ) → (if b then suc n else n) ≡ as_number b + n
    by_test true n = omega arith
    by_test false n = omega arith

-- After a state in which so many builds may come, the builds are at most these, one for `initialize`, and the edits that
-- change.
builds_within : (language : Language) (h : History) (s : State) (xs : List Step) (b : ℕ) → SameProject h s → Leads language s xs → MayBuild b s.stale →
    builds xs ≤ b + to_begin h.session.phase + changes_in language h (messages_in xs)
builds_within language h s [] b same run may = omega arith
builds_within language h s (Take (Msg m) ∷ xs) b same run may =
    let here : told s.session m ≡ told h.session m = ap (λ x. told x m) same in
    let one = build_take language s h (told h.session m) b same (told_fits h.session m) may in
    let ih = builds_within language (heard h m) (next language s (Take (Msg m))) xs one.0 (ap₂ after_told same here) run.1
    (subst (λ t. MayBuild one.0 (after_message language s t).stale) (sym here) one.1) in
    let le = one.2 in
    let c = counted_change language h m (messages_in xs) in
    rw c (omega arith)
builds_within language h s (Take (End cause) ∷ xs) b same run may = builds_within language h (next language s (Take (End cause))) xs b same run.1 may
builds_within language h s (Look ∷ xs) b same run may = builds_within language h (next language s Look) xs b same run.1 may
builds_within language h s (Build ∷ xs) zero same run may = let a = may (and_parts (looked s) s.stale run.0).1 in absurd (omega arith)
builds_within language h s (Build ∷ xs) (suc b) same run may =
    let ih = builds_within language h (next language s Build) xs b same run.1 (λ e. absurd cc) in omega arith
builds_within language h s (Work f n list shown ∷ xs) b same run may = builds_within language h (next language s (Work f n list shown)) xs b same run.1 may
builds_within language h s (Dropped f ∷ xs) b same run may = builds_within language h s xs b same run.1 may
builds_within language h s (Idle ∷ xs) b same run may = builds_within language h (next language s Idle) xs b same run.1 may

pub builds_bound : (language : Language) (base : Project) (steps : List Step) → Run language base steps →
    builds steps ≤ 1 + changes_in language (no_history base) (messages_in steps)
builds_bound language base steps run =
    let all = builds_within language (no_history base) (opening base) steps 0 refl run (λ e. absurd cc) in omega arith
