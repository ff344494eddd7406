-- What the lists written last hold after each run.
use Rattle.std.proofs.Common.{◌≡◌, ℕ, Bool, true, false, List, [], ◌∷◌, refl, sym, ap, ◌∙◌, subst, inl, inr, ◌⊎◌, ⊎_elim, length, arith}
use Rattle.std.specs.Prelude.{Option, Some, None, if◌then◌else◌, bytes_eq, is_some, unwrap_or, sum_by}
use Rattle.std.proofs.lemmas.Bool.{and_parts, not-true, or_parts, cond-true, cond-false}
use Rattle.std.proofs.lemmas.Bool.Decides.{nat_tests}
use Rattle.srb_terms.specs.declared.diag.Diag.{Diag}
use Rattle.srb_terms.specs.Projects.{File, bytes_at, IsProject}
use Rattle.run_watch.specs.declared.step.Step.{Step}
use Rattle.run_watch.specs.declared.step.Step.TheVariants.{Take, Look, Build, Work, Dropped, Idle}
use Rattle.run_watch.specs.declared.inp.Inp.TheVariants.{Msg, End}
use Rattle.lsp_docs.specs.Paths.{Path, has, with_path, without_path, lookup, put}
use Rattle.lsp_docs.specs.Projects.{Project, Edit, with_bytes, paths_of, after_all}
use Rattle.lsp_docs.proofs.PathLemmas.{same_path, has-with_path, has-without_path, has-with_paths, has-paths_of, lookup-put, bytes_at-with_bytes, IsProject-with_bytes}
use Rattle.run_core.specs.Language.{Language, IsLanguage}
use Rattle.run_core.specs.declared.phase.Phase.{Phase}
use Rattle.run_core.specs.declared.phase.Phase.TheVariants.{Waiting, Serving, Closing}
use Rattle.run_core.specs.Sessions.{Session, Told, Nothing, Failed, Logged, Began, Edited, Kept, Ended, told, after_told}
use Rattle.run_core.specs.Histories.{history}
use Rattle.run_core.specs.Legal.{IsBegun}
use Rattle.run_core.specs.Machine.{State, opening, project_of, Permits, after_taken_edit, after_message, next}
use Rattle.run_core.specs.Runs.{Leads, state_after, messages_in, Run, last_state, Over}
use Rattle.run_core.proofs.Histories.{Fits, told_fits}
use Rattle.run_core.proofs.Held.{is_empty_nil}
use Rattle.run_core.proofs.Runs.{run_held}
use Rattle.run_core.proofs.Shown.{differs}
use Rattle.srb_gen.specs.Tallies.{errors_in}
use Rattle.srb_gen.proofs.Lists.{last_list, errors_of_files}

-- the list written last of a file
abbrev pub shown_last : List (Path × List Diag) → Path → List Diag
shown_last m f = unwrap_or (lookup f m) []

shown_put : (m : List (Path × List Diag)) (f g : Path) (list : List Diag) → shown_last (put f list m) g ≡ (if bytes_eq g f then list else shown_last m g)
shown_put m f g list = ap (λ o. unwrap_or o []) (lookup-put g f list m) ∙ by (bytes_eq g f)
  where
    by : (b : Bool) → unwrap_or (if b then Some list else lookup g m) [] ≡ (if b then list else shown_last m g)
    by true = refl
    by false = refl

-- ---- the machine keeps the lists that its steps write

taken_shown : (language : Language) (s : State) (t : Told) → (after_message language s t).shown ≡ s.shown
taken_shown language s (Edited e opened) = by (language.keeps (project_of s) e)
  where
    by : (k : Bool) → (after_taken_edit s k e.path).shown ≡ s.shown
    by true = refl
    by false = refl
taken_shown language s Nothing = refl
taken_shown language s (Failed id code) = refl
taken_shown language s (Logged method reason) = refl
taken_shown language s (Began id agreed) = refl
taken_shown language s (Kept x) = refl
taken_shown language s (Ended id) = refl

pub shown_after : (language : Language) (s : State) (xs : List Step) (f : Path) → shown_last (state_after language s xs).shown f ≡ last_list f (shown_last s.shown f) xs
shown_after language s [] f = refl
shown_after language s (Take (Msg m) ∷ xs) f =
    shown_after language (next language s (Take (Msg m))) xs f
    ∙ ap (λ k. last_list f (shown_last k f) xs) (taken_shown language s (told s.session m))
shown_after language s (Take (End cause) ∷ xs) f = shown_after language (next language s (Take (End cause))) xs f
shown_after language s (Look ∷ xs) f = shown_after language (next language s Look) xs f
shown_after language s (Build ∷ xs) f = shown_after language (next language s Build) xs f
shown_after language s (Work g n list true ∷ xs) f =
    shown_after language (next language s (Work g n list true)) xs f ∙ ap (λ l. last_list f l xs) (shown_put s.shown g f list)
shown_after language s (Work g n list false ∷ xs) f = shown_after language (next language s (Work g n list false)) xs f
shown_after language s (Dropped g ∷ xs) f = shown_after language (next language s (Dropped g)) xs f
shown_after language s (Idle ∷ xs) f = shown_after language (next language s Idle) xs f

-- ---- and they are those of a fresh check, where nothing is left to work on

pub record Right (language : Language) (session : Session) (stale : Bool) (todo owed : List Path) (m : List (Path × List Diag)) : Type 0 where
  pub order : IsProject session.documents.project
  pub fresh : stale ≡ false → IsBegun session.phase → (f : Path) → has f todo ≡ false → shown_last m f ≡ language.fresh session.documents.project f
  pub absent : (f : Path) → has f owed ≡ false → bytes_at f session.documents.project ≡ None → shown_last m f ≡ []

abbrev pub IsRight : Language → State → Type 0
IsRight language s = Right language s.session s.stale s.todo s.owed s.shown

opening_right : (language : Language) (base : Project) → IsProject base → IsRight language (opening base)
opening_right language base order = record {
  order = order;
  fresh = λ e b f p. absurd b;
  absent = λ f p q. refl;
}

-- a path that isn't in the set with another is another one
not_with : (f g : Path) (gs : List Path) → has f (with_path g gs) ≡ false → (bytes_eq f g ≡ false) × (has f gs ≡ false)
not_with f g gs p = or_parts _ _ (sym (has-with_path f g gs) ∙ p)

-- one that isn't in the set without another is that one, or wasn't in the set
not_without : (f g : Path) (gs : List Path) → has f (without_path g gs) ≡ false → (bytes_eq f g ≡ true) ⊎ ((bytes_eq f g ≡ false) × (has f gs ≡ false))
not_without f g gs p = by (bytes_eq f g) refl
  where
    by : (b : Bool) → bytes_eq f g ≡ b → (bytes_eq f g ≡ true) ⊎ ((bytes_eq f g ≡ false) × (has f gs ≡ false))
    by true e = inl e
    by false e = let q = sym (has-without_path f g gs) ∙ p in inr (e, grind (arith, nat_tests, q, e))

bytes_at_other : (f g : Path) (o : Option (List ℕ)) (p : Project) → bytes_eq f g ≡ false → bytes_at f (with_bytes g o p) ≡ bytes_at f p
bytes_at_other f g o p e = bytes_at-with_bytes f g o p ∙ cond-false _ _ _ e

module _ (language : Language) (laws : IsLanguage language) (s : State) (right : IsRight language s) where
  right_edit : (e : Edit) (opened : List Path) (k : Bool) → language.keeps (project_of s) e ≡ k →
      Right language (after_told s.session (Edited e opened)) (after_taken_edit s k e.path).stale (after_taken_edit s k e.path).todo (after_taken_edit s k e.path).owed (after_taken_edit s k e.path).shown
  right_edit e opened true keeps = record {
    order = IsProject-with_bytes e.path e.now (project_of s) right.order;
    fresh = λ c b f p.
        let q = not_with f e.path s.todo p in
        right.fresh c b f q.1 ∙ sym (laws.kept (project_of s) e f right.order keeps (differs f e.path q.0));
    absent = λ f p n.
        let q = not_with f e.path s.owed p in right.absent f q.1 (sym (bytes_at_other f e.path e.now (project_of s) q.0) ∙ n);
  }
  right_edit e opened false keeps = record {
    order = IsProject-with_bytes e.path e.now (project_of s) right.order;
    fresh = λ c b f p. absurd cc;
    absent = λ f p n.
        let q = not_with f e.path s.owed p in right.absent f q.1 (sym (bytes_at_other f e.path e.now (project_of s) q.0) ∙ n);
  }

  begun_ended : (p : Phase) (id : _) → Fits p (Ended id) → IsBegun p
  begun_ended Waiting id f = f
  begun_ended Serving id f = tt
  begun_ended Closing id f = tt

  right_take : (t : Told) → Fits s.session.phase t → IsRight language (after_message language s t)
  right_take (Edited e opened) f = right_edit e opened (language.keeps (project_of s) e) refl
  right_take (Began id agreed) f = record { order = right.order; fresh = λ c b g p. absurd cc; absent = right.absent }
  right_take (Ended id) f = record { order = right.order; fresh = λ c b g p. right.fresh c (begun_ended s.session.phase id f) g p; absent = right.absent }
  right_take Nothing f = record { order = right.order; fresh = right.fresh; absent = right.absent }
  right_take (Failed id code) f = record { order = right.order; fresh = right.fresh; absent = right.absent }
  right_take (Logged method reason) f = record { order = right.order; fresh = right.fresh; absent = right.absent }
  right_take (Kept x) f = record { order = right.order; fresh = right.fresh; absent = right.absent }

  none_of : {A : Type 0} (o : Option A) → is_some o ≡ false → o ≡ None
  none_of None p = refl
  none_of (Some a) p = absurd cc

  right_build : IsRight language (next language s Build)
  right_build = record {
    order = right.order;
    fresh = λ c b f p.
        let q = or_parts _ _ (sym (has-with_paths f (paths_of (project_of s)) s.owed) ∙ p) in
        let gone : bytes_at f (project_of s) ≡ None = none_of _ (sym (has-paths_of f (project_of s)) ∙ q.0) in
        right.absent f q.1 gone ∙ sym (laws.absent (project_of s) f right.order gone);
    absent = right.absent;
  }

  right_shown : (f : Path) (n : ℕ) (list : List Diag) → list ≡ language.fresh (project_of s) f → IsRight language (next language s (Work f n list true))
  right_shown f n list fresh = record {
    order = right.order;
    fresh = λ c b g p. shown_put s.shown f g list ∙ ⊎_elim
        (λ e. cond-true _ _ _ e ∙ fresh ∙ ap (language.fresh (project_of s)) (sym (same_path g f e)))
        (λ e. cond-false _ _ _ e.0 ∙ right.fresh c b g e.1)
        (not_without g f s.todo p);
    absent = λ g p q. shown_put s.shown f g list ∙ ⊎_elim
        (λ e. cond-true _ _ _ e ∙ fresh ∙ laws.absent (project_of s) f right.order (subst (λ x. bytes_at x (project_of s) ≡ None) (same_path g f e) q))
        (λ e. cond-false _ _ _ e.0 ∙ right.absent g e.1 q)
        (not_without g f s.owed p);
  }

  right_quiet : (f : Path) (n : ℕ) (list : List Diag) → list ≡ language.fresh (project_of s) f → has f s.owed ≡ false → list ≡ shown_last s.shown f →
      IsRight language (next language s (Work f n list false))
  right_quiet f n list fresh free same = record {
    order = right.order;
    fresh = λ c b g p. ⊎_elim
        (λ e. subst (λ x. shown_last s.shown x ≡ language.fresh (project_of s) x) (sym (same_path g f e)) (sym same ∙ fresh))
        (λ e. right.fresh c b g e.1)
        (not_without g f s.todo p);
    absent = λ g p q. right.absent g (⊎_elim (λ e. ap (λ x. has x s.owed) (same_path g f e) ∙ free) (λ e. e.1) (not_without g f s.owed p)) q;
  }

right_step : (language : Language) → IsLanguage language → (s : State) (x : Step) → Permits language s x → IsRight language s → IsRight language (next language s x)
right_step language laws s (Take (Msg m)) p right = right_take language laws s right (told s.session m) (told_fits s.session m)
right_step language laws s (Take (End cause)) p right = right
right_step language laws s Look p right = right
right_step language laws s Build p right = right_build language laws s right
right_step language laws s (Work f n list true) p right = right_shown language laws s right f n list p.fresh
right_step language laws s (Work f n list false) p right = right_quiet language laws s right f n list p.fresh p.rightly.0 p.rightly.1
right_step language laws s (Dropped f) p right = right
right_step language laws s Idle p right = right

right_run : (language : Language) → IsLanguage language → (s : State) (xs : List Step) → Leads language s xs → IsRight language s → IsRight language (state_after language s xs)
right_run language laws s [] p right = right
right_run language laws s (x ∷ xs) p right = right_run language laws (next language s x) xs p.1 (right_step language laws s x p.0 right)

-- once a session that was begun is over, the lists written last are those of a fresh check
module _ (language : Language) (laws : IsLanguage language) (base : Project) (order : IsProject base) (steps : List Step) (run : Run language base steps)
    (over : Over language base steps) (begun : IsBegun (last_state language base steps).session.phase) where
  last_right : IsRight language (last_state language base steps)
  last_right = right_run language laws (opening base) steps run (opening_right language base order)

  pub last_fresh : (f : Path) → last_list f [] steps ≡ language.fresh (project_of (last_state language base steps)) f
  last_fresh f =
      let parts = and_parts _ _ over.rest in
      let built = not-true _ parts.0 in
      let empty = is_empty_nil _ parts.1 in
      sym (shown_after language (opening base) steps f) ∙ last_right.fresh built begun f (ap (has f) empty)

  pub last_errors : errors_in steps ≡ sum_by (λ (file : File). length (language.fresh (project_of (last_state language base steps)) file.0)) (project_of (last_state language base steps))
  last_errors =
      let p = project_of (last_state language base steps) in
      errors_of_files p last_right.order steps (λ f gone. last_fresh f ∙ laws.absent p f last_right.order gone)
      ∙ ap (λ (h : Path → List Diag). sum_by (λ (file : File). length (h file.0)) p) (λ i f. last_fresh f i)

-- the same, said of the history of the messages
pub errors_are_fresh : (language : Language) → IsLanguage language → (base : Project) → IsProject base → (steps : List Step) → Run language base steps → Over language base steps →
    IsBegun (history base (messages_in steps)).session.phase →
    errors_in steps ≡ sum_by (λ (file : File). length (language.fresh (after_all base (history base (messages_in steps)).edits) file.0)) (after_all base (history base (messages_in steps)).edits)
errors_are_fresh language laws base order steps run over begun =
    let held = run_held language base steps run in
    let project = ap (λ (x : Session). x.documents.project) held.same ∙ held.sound.project in
    last_errors language laws base order steps run over (subst (λ (x : Session). IsBegun x.phase) (sym held.same) begun)
    ∙ ap (λ (p : Project). sum_by (λ (file : File). length (language.fresh p file.0)) p) project
