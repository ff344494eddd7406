-- What holds of the lists shown after each run, and what makes it settled.
use Rattle.std.proofs.Common.{◌≡◌, ◌≢◌, ℕ, suc, zero, ◌≤◌, Bool, true, false, not, List, [], ◌∷◌, ◌++◌, length, refl, sym, ap, ◌∙◌, subst, subst₂, inl, inr, ⊎_elim, arith, append_assoc}
use Rattle.std.specs.Prelude.{Option, Some, None, if◌then◌else◌, bytes_eq, is_some, unwrap_or, map, ⊤, ◌⊎◌}
use Rattle.std.proofs.lemmas.List.{append-nil}
use Rattle.std.proofs.lemmas.Bool.{and_parts, not-true, or_parts, both_ways, false_from_ne_true, cond-true, cond-false}
use Rattle.std.proofs.lemmas.Bool.Decides.{nat_tests}
use Rattle.srb_terms.specs.declared.diag.Diag.{Diag}
use Rattle.lsp_msg.specs.declared.id.Id.{Id}
use Rattle.lsp_msg.specs.declared.out.Out.{Out}
use Rattle.lsp_msg.specs.declared.out.Out.TheVariants as out
use Rattle.lsp_msg.specs.declared.placed.Placed.{Placed}
use Rattle.run_watch.specs.declared.step.Step.{Step}
use Rattle.run_watch.specs.declared.step.Step.TheVariants.{Take, Look, Build, Work, Dropped, Idle}
use Rattle.run_watch.specs.declared.inp.Inp.TheVariants.{Msg, End}
use Rattle.srb_terms.specs.Projects.{bytes_at, IsProject}
use Rattle.lsp_docs.specs.Paths.{Path, has, with_path, without_path, lookup, put}
use Rattle.lsp_docs.specs.Projects.{Project, Edit, with_bytes, paths_of}
use Rattle.lsp_docs.specs.Documents.{Agreed, uri_of, placed}
use Rattle.lsp_docs.proofs.PathLemmas.{self_path, same_path, has-with_path, has-without_path, has-with_paths, has-paths_of, lookup-put, bytes_at-with_bytes, IsProject-with_bytes}
use Rattle.lsp_docs.proofs.UriLemmas.{uri_below_differs}
use Rattle.run_core.specs.Language.{Language, IsLanguage, list_of}
use Rattle.run_core.specs.Sessions.{Phase, Waiting, Serving, Closing, Session, Told, Nothing, Failed, Logged, Began, Edited, Kept, Ended, told, after_told, answer_of}
use Rattle.run_core.specs.Histories.{Shutdown, History, no_history, listed, heard_as, heard, heard_all, history, is_edited, last_edit}
use Rattle.run_core.specs.Legal.{IsBegun}
use Rattle.run_core.specs.Settled.{last_items, HasListSince, Settled}
use Rattle.run_core.specs.Machine.{State, opening, project_of, IsShown, Permits, after_taken_edit, after_message, next, written}
use Rattle.run_core.specs.Runs.{Leads, state_after, written_by, message_in, messages_in, Run, outs, last_state, Over}
use Rattle.run_core.proofs.Messages.{last_items-append, last_items-answer, HasListSince-append, HasListSince-after}
use Rattle.run_core.proofs.Histories.{Fits, Quiet, told_fits, heard_all-append}
use Rattle.run_core.proofs.Legality.{is_edited-append}
use Rattle.run_core.proofs.Held.{Holds, Ready, may_work_parts, begun_at_work, list_written, farewell_written, opening_held, is_empty_nil}
use Rattle.run_core.proofs.Runs.{held_step, same_told, run_held}

-- the list shown last of a file
abbrev pub last_shown : List (Path × List Diag) → Path → List Diag
last_shown m f = unwrap_or (lookup f m) []

-- the items of a list of errors of a file
abbrev pub items_of : Session → Path → List Diag → List Placed
items_of s f list = map (placed s.documents.agreed.encoding (unwrap_or (bytes_at f s.documents.project) [])) list

-- before `initialize` nothing was shown
abbrev pub NothingShown : Phase → List (Path × List Diag) → List Out → Type 0
NothingShown Waiting m os = (m ≡ []) × ((u : List ℕ) → last_items u [] os ≡ [])
NothingShown Serving m os = ⊤
NothingShown Closing m os = ⊤

pub record Right (language : Language) (session : Session) (edits : List Edit) (os : List Out) (stale : Bool) (todo owed : List Path) (m : List (Path × List Diag)) : Type 0 where
  pub order : IsProject session.documents.project
  pub inside : stale ≡ false → (f : Path) → has f owed ≡ true → has f todo ≡ true
  pub fresh : stale ≡ false → IsBegun session.phase → (f : Path) → has f todo ≡ false → last_shown m f ≡ language.fresh session.documents.project f
  pub told : (f : Path) → has f owed ≡ false → last_items (uri_of session.documents.agreed f) [] os ≡ items_of session f (last_shown m f)
  pub since : (f : Path) → has f owed ≡ false → is_edited f edits ≡ true → HasListSince (uri_of session.documents.agreed f) (last_edit f edits) os
  pub absent : (f : Path) → has f owed ≡ false → bytes_at f session.documents.project ≡ None → last_shown m f ≡ []
  pub before : NothingShown session.phase m os

abbrev pub IsRight : Language → History → List Out → State → Type 0
IsRight language h os s = Right language h.session h.edits os s.stale s.todo s.owed s.shown

pub opening_right : (language : Language) (base : Project) → IsProject base → IsRight language (no_history base) [] (opening base)
opening_right language base order = record {
  order = order;
  inside = λ e f p. absurd cc;
  fresh = λ e b f p. absurd b;
  told = λ f p. refl;
  since = λ f p q. absurd cc;
  absent = λ f p q. refl;
  before = (refl, λ u. refl);
}

-- ---- what a message leaves

last_items_still : (u : List ℕ) (os : List Out) (t : Told) → last_items u [] (os ++ listed (answer_of t)) ≡ last_items u [] os
last_items_still u os t = last_items-append u [] os _ ∙ last_items-answer u _ t

shown_still : (p : Phase) (m : List (Path × List Diag)) (os : List Out) (t : Told) → NothingShown p m os → NothingShown p m (os ++ listed (answer_of t))
shown_still Waiting m os t b = (b.0, λ u. last_items_still u os t ∙ b.1 u)
shown_still Serving m os t b = tt
shown_still Closing m os t b = tt

-- a message that leaves the project, the root and the edits
right_still : (language : Language) (s s' : Session) (es : List Edit) (os : List Out) (stale : Bool) (todo owed : List Path) (m : List (Path × List Diag)) (t : Told) →
    s'.documents.project ≡ s.documents.project → s'.documents.agreed ≡ s.documents.agreed → s'.phase ≡ s.phase →
    Right language s es os stale todo owed m → Right language s' (es ++ []) (os ++ listed (answer_of t)) stale todo owed m
right_still language s s' es os stale todo owed m t p a ph right = record {
  order = rw p right.order;
  inside = right.inside;
  fresh = λ e b f q. rw p (right.fresh e (subst IsBegun ph b) f q);
  told = λ f q. rw (p, a) (last_items_still _ os t ∙ right.told f q);
  since = λ f q i. rw (a, append-nil es) (HasListSince-append _ _ os _ (right.since f q (rw append-nil at i)));
  absent = λ f q n. right.absent f q (rw p at n);
  before = rw ph (shown_still s.phase m os t right.before);
}

waiting_began : (p : Phase) (id : Id) (agreed : Agreed) (m : List (Path × List Diag)) (os : List Out) → Fits p (Began id agreed) → NothingShown p m os →
    (m ≡ []) × ((u : List ℕ) → last_items u [] os ≡ [])
waiting_began Waiting id agreed m os f b = b
waiting_began Serving id agreed m os f b = absurd f
waiting_began Closing id agreed m os f b = absurd f

right_began : (language : Language) (h : History) (os : List Out) (s : State) (id : Id) (agreed : Agreed) → Fits h.session.phase (Began id agreed) →
    IsRight language h os s → h.edits ≡ [] → IsRight language (heard_as h (Began id agreed)) (os ++ out.Initialized id agreed.encoding ∷ []) (after_message language s (Began id agreed))
right_began language h os s id agreed f right none =
    let nothing = waiting_began h.session.phase id agreed s.shown os f right.before in
    let shown : (g : Path) → last_shown s.shown g ≡ [] = λ g. ap (λ m. last_shown m g) nothing.0 in
    record {
      order = right.order;
      inside = λ e g p. absurd cc;
      fresh = λ e b g p. absurd cc;
      told = λ g p. last_items-append _ [] os _ ∙ nothing.1 _ ∙ sym (ap (items_of (record { phase = Serving; documents = record h.session.documents { agreed = agreed } }) g) (shown g));
      since = λ g p i. absurd (both_ways (is_edited g (h.edits ++ [])) (ap (is_edited g) (append-nil h.edits ∙ none)) i);
      absent = right.absent;
      before = tt;
    }

-- ---- an edit

serving_edit : (p : Phase) (e : Edit) (o : List Path) → Fits p (Edited e o) → p ≡ Serving
serving_edit Waiting e o f = absurd f
serving_edit Serving e o f = refl
serving_edit Closing e o f = absurd f

bytes_at_other : (f g : Path) (o : Option (List ℕ)) (p : Project) → bytes_eq f g ≡ false → bytes_at f (with_bytes g o p) ≡ bytes_at f p
bytes_at_other f g o p e = bytes_at-with_bytes f g o p ∙ cond-false _ _ _ e

not_edited : (f : Path) (es : List Edit) (e : Edit) → bytes_eq f e.path ≡ false → is_edited f (es ++ e ∷ []) ≡ is_edited f es
not_edited f es e p = let a = is_edited-append f es (e ∷ []) in grind (arith, nat_tests, a, p)

last_edit_other : (f : Path) (es : List Edit) (e : Edit) → bytes_eq f e.path ≡ false → last_edit f (es ++ e ∷ []) ≡ last_edit f es
last_edit_other f [] e p = cond-false _ _ _ p
last_edit_other f (x ∷ xs) e p = ap (λ n. elim n [ zero ↦ (if bytes_eq f x.path then 1 else 0) | suc k ↦ suc (suc k) ]) (last_edit_other f xs e p)

last_edit_le : (f : Path) (es : List Edit) → last_edit f es ≤ length es
last_edit_le f [] = omega arith
last_edit_le f (x ∷ xs) = by_last (last_edit f xs) (bytes_eq f x.path) (last_edit_le f xs)
  where
    by_last : (n : ℕ) (b : Bool) → n ≤ length xs → elim n [ zero ↦ (if b then 1 else 0) | suc k ↦ suc (suc k) ] ≤ suc (length xs)
    by_last zero true p = omega arith
    by_last zero false p = omega arith
    by_last (suc k) b p = omega arith

-- a path that isn't owed after the edit is another one that wasn't owed before
not_owed : (f g : Path) (gs : List Path) → has f (with_path g gs) ≡ false → (bytes_eq f g ≡ false) × (has f gs ≡ false)
not_owed f g gs p = or_parts _ _ (sym (has-with_path f g gs) ∙ p)

pub differs : (f g : Path) → bytes_eq f g ≡ false → f ≢ g
differs f g p e = both_ways (bytes_eq f g) p (subst (λ x. bytes_eq f x ≡ true) e (self_path f))

module _ (language : Language) (laws : IsLanguage language) (s : Session) (es : List Edit) (os : List Out) (e : Edit) (opened : List Path) (begun : s.phase ≡ Serving) where
  right_kept : (todo owed : List Path) (stale : Bool) (m : List (Path × List Diag)) → language.keeps s.documents.project e ≡ true →
      Right language s es os stale todo owed m →
      Right language (after_told s (Edited e opened)) (es ++ e ∷ []) (os ++ []) stale (with_path e.path todo) (with_path e.path owed) m
  right_kept todo owed stale m keeps right = record {
    order = IsProject-with_bytes e.path e.now s.documents.project right.order;
    inside = λ c f p. has-with_path f e.path todo ∙ (let q = sym (has-with_path f e.path owed) ∙ p in let i = right.inside c f in grind (arith, nat_tests, q, i));
    fresh = λ c b f p.
        let q = not_owed f e.path todo p in
        right.fresh c (subst IsBegun (sym begun) tt) f q.1
        ∙ sym (laws.kept s.documents.project e f right.order keeps (differs f e.path q.0));
    told = λ f p.
        let q = not_owed f e.path owed p in
        last_items-append _ [] os [] ∙ right.told f q.1
        ∙ ap (λ o. map (placed s.documents.agreed.encoding (unwrap_or o [])) (last_shown m f)) (sym (bytes_at_other f e.path e.now s.documents.project q.0));
    since = λ f p i.
        let q = not_owed f e.path owed p in
        HasListSince-append _ _ os [] (subst (λ n. HasListSince (uri_of s.documents.agreed f) n os) (sym (last_edit_other f es e q.0))
        (right.since f q.1 (sym (not_edited f es e q.0) ∙ i)));
    absent = λ f p n.
        let q = not_owed f e.path owed p in right.absent f q.1 (sym (bytes_at_other f e.path e.now s.documents.project q.0) ∙ n);
    before = subst (λ p. NothingShown p m (os ++ [])) (sym begun) tt;
  }

  right_changed : (todo owed : List Path) (stale : Bool) (m : List (Path × List Diag)) →
      Right language s es os stale todo owed m →
      Right language (after_told s (Edited e opened)) (es ++ e ∷ []) (os ++ []) true todo (with_path e.path owed) m
  right_changed todo owed stale m right = record {
    order = IsProject-with_bytes e.path e.now s.documents.project right.order;
    inside = λ c f p. absurd cc;
    fresh = λ c b f p. absurd cc;
    told = λ f p.
        let q = not_owed f e.path owed p in
        last_items-append _ [] os [] ∙ right.told f q.1
        ∙ ap (λ o. map (placed s.documents.agreed.encoding (unwrap_or o [])) (last_shown m f)) (sym (bytes_at_other f e.path e.now s.documents.project q.0));
    since = λ f p i.
        let q = not_owed f e.path owed p in
        HasListSince-append _ _ os [] (subst (λ n. HasListSince (uri_of s.documents.agreed f) n os) (sym (last_edit_other f es e q.0))
        (right.since f q.1 (sym (not_edited f es e q.0) ∙ i)));
    absent = λ f p n.
        let q = not_owed f e.path owed p in right.absent f q.1 (sym (bytes_at_other f e.path e.now s.documents.project q.0) ∙ n);
    before = subst (λ p. NothingShown p m (os ++ [])) (sym begun) tt;
  }

right_edit : (language : Language) → IsLanguage language → (h : History) (os : List Out) (s : State) (e : Edit) (opened : List Path) (k : Bool) →
    language.keeps h.session.documents.project e ≡ k → h.session.phase ≡ Serving → IsRight language h os s →
    Right language (after_told h.session (Edited e opened)) (h.edits ++ e ∷ []) (os ++ []) (after_taken_edit s k e.path).stale (after_taken_edit s k e.path).todo (after_taken_edit s k e.path).owed (after_taken_edit s k e.path).shown
right_edit language laws h os s e opened true keeps begun right =
    right_kept language laws h.session h.edits os e opened begun s.todo s.owed s.stale s.shown keeps right
right_edit language laws h os s e opened false keeps begun right =
    right_changed language laws h.session h.edits os e opened begun s.todo s.owed s.stale s.shown right

-- ---- a message is taken

no_edits : (p : Phase) (id : Id) (agreed : Agreed) (es : List Edit) (sd : Option Shutdown) → Fits p (Began id agreed) → Quiet p es sd → es ≡ []
no_edits Waiting id agreed es sd f q = q.0
no_edits Serving id agreed es sd f q = absurd f
no_edits Closing id agreed es sd f q = absurd f

-- the phase after the accepted `shutdown` is no longer that before `initialize`
right_ended : (language : Language) (s : Session) (es : List Edit) (os : List Out) (stale : Bool) (todo owed : List Path) (m : List (Path × List Diag)) (id : Id) → Fits s.phase (Ended id) →
    Right language s es os stale todo owed m → Right language (after_told s (Ended id)) (es ++ []) (os ++ []) stale todo owed m
right_ended language s es os stale todo owed m id f right = record {
  order = right.order;
  inside = right.inside;
  fresh = λ e b g q. right.fresh e (by_phase s.phase f) g q;
  told = λ g q. last_items-append _ [] os [] ∙ right.told g q;
  since = λ g q i. rw (append-nil es) (HasListSince-append _ _ os [] (right.since g q (rw (append-nil es) at i)));
  absent = right.absent;
  before = tt;
}
  where
    by_phase : (p : Phase) → Fits p (Ended id) → IsBegun p
    by_phase Waiting f = f
    by_phase Serving f = tt
    by_phase Closing f = tt

right_take : (language : Language) → IsLanguage language → (base : Project) (h : History) (os : List Out) (s : State) (t : Told) → Fits h.session.phase t →
    Holds language base h os s → IsRight language h os s → IsRight language (heard_as h t) (os ++ listed (answer_of t)) (after_message language s t)
right_take language laws base h os s (Edited e opened) f held right =
    right_edit language laws h os s e opened (language.keeps (project_of s) e)
    (ap (λ (x : Session). language.keeps x.documents.project e) (sym held.same))
    (serving_edit h.session.phase e opened f) right
right_take language laws base h os s (Began id agreed) f held right =
    right_began language h os s id agreed f right (no_edits h.session.phase id agreed h.edits h.shutdown f held.sound.quiet)
right_take language laws base h os s (Ended id) f held right = right_ended language h.session h.edits os s.stale s.todo s.owed s.shown id f right
right_take language laws base h os s Nothing f held right =
    right_still language h.session (after_told h.session Nothing) h.edits os s.stale s.todo s.owed s.shown Nothing refl refl refl right
right_take language laws base h os s (Failed id code) f held right =
    right_still language h.session (after_told h.session (Failed id code)) h.edits os s.stale s.todo s.owed s.shown (Failed id code) refl refl refl right
right_take language laws base h os s (Logged method reason) f held right =
    right_still language h.session (after_told h.session (Logged method reason)) h.edits os s.stale s.todo s.owed s.shown (Logged method reason) refl refl refl right
right_take language laws base h os s (Kept x) f held right =
    right_still language h.session (after_told h.session (Kept x)) h.edits os s.stale s.todo s.owed s.shown (Kept x) refl refl refl right

-- ---- a build

none_of : {A : Type 0} (o : Option A) → is_some o ≡ false → o ≡ None
none_of None p = refl
none_of (Some a) p = absurd cc

right_build : (language : Language) → IsLanguage language → (base : Project) (h : History) (os : List Out) (s : State) →
    Holds language base h os s → IsRight language h os s → IsRight language h os (next language s Build)
right_build language laws base h os s held right =
    let there : project_of s ≡ h.session.documents.project = ap (λ (x : Session). x.documents.project) held.same in
    record {
      order = right.order;
      inside = λ c f p. has-with_paths f (paths_of (project_of s)) s.owed ∙ grind (arith, nat_tests, p);
      fresh = λ c b f p.
          let q = or_parts _ _ (sym (has-with_paths f (paths_of (project_of s)) s.owed) ∙ p) in
          let gone : bytes_at f h.session.documents.project ≡ None =
          none_of _ (subst (λ x. is_some (bytes_at f x) ≡ false) there (sym (has-paths_of f (project_of s)) ∙ q.0)) in
          right.absent f q.1 gone ∙ sym (laws.absent h.session.documents.project f right.order gone);
      told = right.told;
      since = right.since;
      absent = right.absent;
      before = right.before;
    }

-- ---- a file is worked on

shown_here : (m : List (Path × List Diag)) (f g : Path) (list : List Diag) → last_shown (put f list m) g ≡ (if bytes_eq g f then list else last_shown m g)
shown_here m f g list = ap (λ o. unwrap_or o []) (lookup-put g f list m) ∙ by_test (bytes_eq g f)
  where
    by_test : (b : Bool) → unwrap_or (if b then Some list else lookup g m) [] ≡ (if b then list else last_shown m g)
    by_test true = refl
    by_test false = refl

-- what a file that isn't in the set without another was
not_without : (f g : Path) (gs : List Path) → has f (without_path g gs) ≡ false → (bytes_eq f g ≡ true) ⊎ ((bytes_eq f g ≡ false) × (has f gs ≡ false))
not_without f g gs p = by_test (bytes_eq f g) refl
  where
    by_test : (b : Bool) → bytes_eq f g ≡ b → (bytes_eq f g ≡ true) ⊎ ((bytes_eq f g ≡ false) × (has f gs ≡ false))
    by_test true e = inl e
    by_test false e = let q = sym (has-without_path f g gs) ∙ p in inr (e, grind (arith, nat_tests, q, e))

other_uri : (agreed : Agreed) (f g : Path) → bytes_eq f g ≡ false → bytes_eq (uri_of agreed f) (uri_of agreed g) ≡ false
other_uri agreed f g p = false_from_ne_true _ (λ q. differs f g p (uri_below_differs agreed.root f g (same_path _ _ q)))

module _ (language : Language) (laws : IsLanguage language) (base : Project) (h : History) (os : List Out) (s : State) (f : Path) (n : ℕ) (list : List Diag)
    (ready : Ready s f) (now : n ≡ s.epoch) (fresh : list ≡ language.fresh (project_of s) f)
    (held : Holds language base h os s) (right : IsRight language h os s) where
  begun_here : IsBegun h.session.phase
  begun_here = begun_at_work h.session.phase s.stale s.todo f ready.asked held.waiting

  fresh_here : list ≡ language.fresh h.session.documents.project f
  fresh_here = fresh ∙ ap (λ (x : Session). language.fresh x.documents.project f) held.same

  shown_begun : (p : Phase) (m : List (Path × List Diag)) (o : List Out) → IsBegun p → NothingShown p m o
  shown_begun Waiting m o b = absurd b
  shown_begun Serving m o b = tt
  shown_begun Closing m o b = tt

  inside_work : s.stale ≡ false → (g : Path) → has g (without_path f s.owed) ≡ true → has g (without_path f s.todo) ≡ true
  inside_work c g p =
      let q = and_parts (not (bytes_eq g f)) (has g s.owed) (sym (has-without_path g f s.owed) ∙ p) in
      let i = right.inside c g q.1 in
      let d = q.0 in
      has-without_path g f s.todo ∙ grind (arith, nat_tests, d, i)

  -- the list that was written, by the history
  written_here : list_written s f n list ≡ out.List (uri_of h.session.documents.agreed f) n (items_of h.session f list)
  written_here = ap (λ x. out.List (uri_of x.documents.agreed f) n (items_of x f list)) held.same

  right_quiet : IsShown s f list false → IsRight language h (os ++ []) (next language s (Work f n list false))
  right_quiet shown = record {
    order = right.order;
    inside = inside_work;
    fresh = λ c b g p. ⊎_elim
        (λ e. subst (λ x. last_shown s.shown x ≡ language.fresh h.session.documents.project x) (sym (same_path g f e)) (sym shown.1 ∙ fresh_here))
        (λ e. right.fresh c b g e.1)
        (not_without g f s.todo p);
    told = λ g p. last_items-append _ [] os [] ∙ right.told g (owed_quiet g p);
    since = λ g p i. HasListSince-append _ _ os [] (right.since g (owed_quiet g p) i);
    absent = λ g p q. right.absent g (owed_quiet g p) q;
    before = shown_begun h.session.phase s.shown _ begun_here;
  }
    where
      owed_quiet : (g : Path) → has g (without_path f s.owed) ≡ false → has g s.owed ≡ false
      owed_quiet g p = ⊎_elim (λ e. ap (λ x. has x s.owed) (same_path g f e) ∙ shown.0) (λ e. e.1) (not_without g f s.owed p)

  told_work : (g : Path) → has g (without_path f s.owed) ≡ false →
      last_items (uri_of h.session.documents.agreed g) [] (os ++ out.List (uri_of h.session.documents.agreed f) n (items_of h.session f list) ∷ [])
      ≡ items_of h.session g (last_shown (put f list s.shown) g)
  told_work g p = last_items-append _ [] os _ ∙ ⊎_elim
      (λ e.
      let same = same_path g f e in
      cond-true _ _ _ (subst (λ x. bytes_eq (uri_of h.session.documents.agreed x) (uri_of h.session.documents.agreed f) ≡ true) (sym same) (self_path (uri_of h.session.documents.agreed f)))
      ∙ ap (λ x. items_of h.session x list) (sym same)
      ∙ ap (items_of h.session g) (sym (shown_here s.shown f g list ∙ cond-true _ _ _ e)))
      (λ e.
      cond-false _ _ _ (other_uri h.session.documents.agreed g f e.0)
      ∙ right.told g e.1
      ∙ ap (items_of h.session g) (sym (shown_here s.shown f g list ∙ cond-false _ _ _ e.0)))
      (not_without g f s.owed p)

  since_work : (g : Path) → has g (without_path f s.owed) ≡ false → is_edited g h.edits ≡ true →
      HasListSince (uri_of h.session.documents.agreed g) (last_edit g h.edits) (os ++ out.List (uri_of h.session.documents.agreed f) n (items_of h.session f list) ∷ [])
  since_work g p i = ⊎_elim
      (λ e. HasListSince-after _ _ os _ (inl (ap (uri_of h.session.documents.agreed) (same_path g f e), (let c = held.counted in let l = last_edit_le g h.edits in omega arith))))
      (λ e. HasListSince-append _ _ os _ (right.since g e.1 i))
      (not_without g f s.owed p)

  right_shown : IsRight language h (os ++ list_written s f n list ∷ []) (next language s (Work f n list true))
  right_shown = subst (λ x. IsRight language h (os ++ x ∷ []) (next language s (Work f n list true))) (sym written_here) (record {
    order = right.order;
    inside = inside_work;
    fresh = λ c b g p. shown_here s.shown f g list ∙ ⊎_elim
        (λ e. cond-true _ _ _ e ∙ fresh_here ∙ ap (language.fresh h.session.documents.project) (sym (same_path g f e)))
        (λ e. cond-false _ _ _ e.0 ∙ right.fresh c b g e.1)
        (not_without g f s.todo p);
    told = told_work;
    since = since_work;
    absent = λ g p q. shown_here s.shown f g list ∙ ⊎_elim
        (λ e. cond-true _ _ _ e ∙ fresh_here ∙ laws.absent h.session.documents.project f right.order (subst (λ x. bytes_at x h.session.documents.project ≡ None) (same_path g f e) q))
        (λ e. cond-false _ _ _ e.0 ∙ right.absent g e.1 q)
        (not_without g f s.owed p);
    before = shown_begun h.session.phase _ _ begun_here;
  })

-- ---- nothing else shows a list

right_more : (language : Language) (h : History) (os more : List Out) (s : State) → ((u : List ℕ) (b : List Placed) → last_items u b more ≡ b) →
    IsRight language h os s → IsRight language h (os ++ more) s
right_more language h os more s none right = record {
  order = right.order;
  inside = right.inside;
  fresh = right.fresh;
  told = λ f p. last_items-append _ [] os more ∙ none _ _ ∙ right.told f p;
  since = λ f p i. HasListSince-append _ _ os more (right.since f p i);
  absent = right.absent;
  before = by_phase h.session.phase right.before;
}
  where
    by_phase : (p : Phase) → NothingShown p s.shown os → NothingShown p s.shown (os ++ more)
    by_phase Waiting b = (b.0, λ u. last_items-append u [] os more ∙ none u _ ∙ b.1 u)
    by_phase Serving b = tt
    by_phase Closing b = tt

farewell_shows_none : (o : Option Id) (u : List ℕ) (b : List Placed) → last_items u b (listed (farewell_written o)) ≡ b
farewell_shows_none None u b = refl
farewell_shows_none (Some id) u b = refl

right_step : (language : Language) → IsLanguage language → (base : Project) (h : History) (os : List Out) (s : State) (x : Step) → Permits language s x →
    Holds language base h os s → IsRight language h os s → IsRight language (heard_all h (message_in x)) (os ++ listed (written s x)) (next language s x)
right_step language laws base h os s (Take (Msg m)) p held right =
    subst (λ t. IsRight language (heard h m) (os ++ listed (answer_of t)) (after_message language s t)) (same_told language base h os s m held)
    (right_take language laws base h os s (told h.session m) (told_fits h.session m) held right)
right_step language laws base h os s (Take (End cause)) p held right = right_more language h os [] (next language s (Take (End cause))) (λ u b. refl) right
right_step language laws base h os s Look p held right = right_more language h os [] (next language s Look) (λ u b. refl) right
right_step language laws base h os s Build p held right =
    right_more language h os [] (next language s Build) (λ u b. refl) (right_build language laws base h os s held right)
right_step language laws base h os s (Work f n list true) p held right =
    right_shown language laws base h os s f n list (may_work_parts s f p.ready) p.now p.fresh held right
right_step language laws base h os s (Work f n list false) p held right =
    right_quiet language laws base h os s f n list (may_work_parts s f p.ready) p.now p.fresh held right p.rightly
right_step language laws base h os s (Dropped f) p held right = right_more language h os [] s (λ u b. refl) right
right_step language laws base h os s Idle p held right =
    right_more language h os _ (next language s Idle) (farewell_shows_none s.owing) right

right_run : (language : Language) → IsLanguage language → (base : Project) (h : History) (os : List Out) (s : State) (steps : List Step) → Leads language s steps →
    Holds language base h os s → IsRight language h os s →
    IsRight language (heard_all h (messages_in steps)) (os ++ written_by language s steps) (state_after language s steps)
right_run language laws base h os s [] p held right = subst (λ o. IsRight language h o s) (sym (append-nil os)) right
right_run language laws base h os s (x ∷ xs) p held right =
    let one = right_step language laws base h os s x p.0 held right in
    let held' = held_step language base h os s x p.0 held in
    let more = right_run language laws base (heard_all h (message_in x)) (os ++ listed (written s x)) (next language s x) xs p.1 held' one in
    subst₂ (λ k o. IsRight language k o (state_after language (next language s x) xs))
    (sym (heard_all-append h (message_in x) (messages_in xs)))
    (append_assoc os (listed (written s x)) (written_by language (next language s x) xs))
    more

pub run_is_settled : (language : Language) → IsLanguage language → (base : Project) → IsProject base → (steps : List Step) → Run language base steps → Over language base steps →
    IsBegun (history base (messages_in steps)).session.phase → Settled language base (messages_in steps) (outs language base steps)
run_is_settled language laws base order steps run over begun =
    let right = right_run language laws base (no_history base) [] (opening base) steps run (opening_held language base) (opening_right language base order) in
    let held = run_held language base steps run in
    let parts = and_parts _ _ over.rest in
    let built = not-true _ parts.0 in
    let empty = is_empty_nil _ parts.1 in
    let h = history base (messages_in steps) in
    let s = last_state language base steps in
    let no_todo : (f : Path) → has f s.todo ≡ false = λ f. ap (has f) empty in
    let no_owed : (f : Path) → has f s.owed ≡ false = λ f. false_from_ne_true _ (λ q. both_ways _ (no_todo f) (right.inside built f q)) in
    record {
      right = λ f k.
          right.told f (no_owed f)
          ∙ ap (items_of h.session f) (right.fresh built begun f (no_todo f))
          ∙ ap (λ p. list_of language h.session.documents.agreed p f) held.sound.project;
      shown = λ f i. right.since f (no_owed f) i;
    }
