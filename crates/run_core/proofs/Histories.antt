-- The laws of histories: what one more message leaves as it was.
use Rattle.std.proofs.Common.{◌≡◌, ℕ, suc, zero, List, [], ◌∷◌, ◌++◌, length, get_or, refl, sym, ap, ◌∙◌, subst, arith, length-append}
use Rattle.std.specs.Prelude.{Option, Some, None, Result, Ok, Err, IsSome, ⊤}
use Rattle.std.proofs.lemmas.List.{append-nil}
use Rattle.lsp_msg.specs.declared.msg.Msg.{Msg}
use Rattle.lsp_msg.specs.declared.msg.Msg.TheVariants.{Initialize, Opened, Changed, Saved, Closed, Shutdown, Exit, Unknown, Ignored, BadParams, Bad}
use Rattle.lsp_msg.specs.declared.out.Out.{Out}
use Rattle.lsp_msg.specs.declared.reason.Reason.{Reason}
use Rattle.lsp_docs.specs.declared.doc_end.DocEnd.{DocEnd}
use Rattle.lsp_docs.specs.Projects.{Project, Edit, after_edit, after_all}
use Rattle.lsp_docs.specs.Documents.{Documents, Deed, applied}
use Rattle.run_core.specs.Sessions.{Phase, Waiting, Serving, Closing, Session, Told, Nothing, Failed, Logged, Began, Edited, Kept, Ended, told, told_in, told_by, when_waiting, when_serving, when_closing, after_told, answer_of, reason_of}
use Rattle.run_core.specs.Histories.{Shutdown as Shut, History, no_history, listed, edit_of, answers_at_edit, shutdown_of, heard_as, heard, heard_all, history}
use Rattle.run_core.specs.Legal.{Begins}
use Rattle.run_core.proofs.Messages.{Begins-refl, Begins-nil, Begins-more}

some_same : {A : Type 0} {x y : A} → Some x ≡ Some y → x ≡ y
some_same e = cc

-- ---- what a message can come to in each phase

abbrev pub Fits : Phase → Told → Type 0
Fits Waiting Nothing = ⊤
Fits Waiting (Failed id code) = ⊤
Fits Waiting (Began id agreed) = ⊤
Fits Waiting t = ⊥
Fits Serving (Began id agreed) = ⊥
Fits Serving t = ⊤
Fits Closing Nothing = ⊤
Fits Closing (Failed id code) = ⊤
Fits Closing t = ⊥

waiting_fits : (m : Msg) → Fits Waiting (when_waiting m)
waiting_fits (Initialize id root encodings) = tt
waiting_fits (BadParams method None) = tt
waiting_fits (BadParams method (Some id)) = tt
waiting_fits m = tt

serving_told : (method : List ℕ) (r : Result Deed DocEnd) → Fits Serving (told_by method r)
serving_told method (Ok (Deed.Edits e opened)) = tt
serving_told method (Ok (Deed.Saves f)) = tt
serving_told method (Err e) = by_reason (reason_of e)
  where
    by_reason : (o : Option Reason) → Fits Serving (elim o [ None ↦ Nothing | Some reason ↦ Logged method reason ])
    by_reason None = tt
    by_reason (Some reason) = tt

serving_applied : (method : List ℕ) (o : Option (Result Deed DocEnd)) →
    Fits Serving (elim o [ None ↦ Nothing | Some result ↦ told_by method result ])
serving_applied method None = tt
serving_applied method (Some r) = serving_told method r

serving_fits : (d : Documents) (m : Msg) → Fits Serving (when_serving d m)
serving_fits d (Initialize id root encodings) = tt
serving_fits d (Opened uri text) = serving_applied _ (applied d (Opened uri text))
serving_fits d (Changed uri changes) = serving_applied _ (applied d (Changed uri changes))
serving_fits d (Saved uri) = serving_applied _ (applied d (Saved uri))
serving_fits d (Closed uri) = serving_applied _ (applied d (Closed uri))
serving_fits d (Shutdown id) = tt
serving_fits d Exit = tt
serving_fits d (Unknown id) = tt
serving_fits d Ignored = tt
serving_fits d (BadParams method None) = tt
serving_fits d (BadParams method (Some id)) = tt
serving_fits d (Bad code id) = tt

closing_fits : (m : Msg) → Fits Closing (when_closing m)
closing_fits (Initialize id root encodings) = tt
closing_fits (BadParams method None) = tt
closing_fits (BadParams method (Some id)) = tt
closing_fits m = tt

fits_in : (p : Phase) (d : Documents) (m : Msg) → Fits p (told_in p d m)
fits_in Waiting d m = waiting_fits m
fits_in Serving d m = serving_fits d m
fits_in Closing d m = closing_fits m

pub told_fits : (s : Session) (m : Msg) → Fits s.phase (told s m)
told_fits s m = fits_in s.phase s.documents m

-- ---- what holds of every history

-- before `initialize` there is no edit and no `shutdown`, and before `shutdown` there is none
abbrev pub Quiet : Phase → List Edit → Option Shut → Type 0
Quiet Waiting edits shutdown = (edits ≡ []) × (shutdown ≡ None)
Quiet Serving edits shutdown = shutdown ≡ None
Quiet Closing edits shutdown = IsSome shutdown

pub record Sound (base : Project) (h : History) : Type 0 where
  pub counted : length h.answered ≡ length h.edits
  pub marked : (n : ℕ) → Begins (get_or h.answered n []) h.answers
  pub shut : (sd : Shut) → h.shutdown ≡ Some sd → Begins sd.answered h.answers
  pub quiet : Quiet h.session.phase h.edits h.shutdown
  pub project : h.session.documents.project ≡ after_all base h.edits

pub no_history_sound : (base : Project) → Sound base (no_history base)
no_history_sound base = record {
  counted = refl;
  marked = λ n. Begins-nil [];
  shut = λ sd e. absurd cc;
  quiet = (refl, refl);
  project = refl;
}

counted_more : (h : History) (t : Told) → length h.answered ≡ length h.edits →
    length (h.answered ++ answers_at_edit h.answers t) ≡ length (h.edits ++ edit_of t)
counted_more h (Edited e opened) p = simp length-append (omega arith)
counted_more h Nothing p = simp append-nil p
counted_more h (Failed id code) p = simp append-nil p
counted_more h (Logged method reason) p = simp append-nil p
counted_more h (Began id agreed) p = simp append-nil p
counted_more h (Kept f) p = simp append-nil p
counted_more h (Ended id) p = simp append-nil p

-- what holds of each list and of one more holds of each of both
get_or-append_each : (P : List Out → Type 0) (xs ys : List (List Out)) (n : ℕ) → ((n : ℕ) → P (get_or xs n [])) → ((n : ℕ) → P (get_or ys n [])) → P (get_or (xs ++ ys) n [])
get_or-append_each P [] ys n p q = q n
get_or-append_each P (x ∷ xs) ys zero p q = p 0
get_or-append_each P (x ∷ xs) ys (suc n) p q = get_or-append_each P xs ys n (λ k. p (suc k)) q

marked_more : (h : History) (t : Told) (n : ℕ) → Begins (get_or (answers_at_edit h.answers t) n []) (h.answers ++ listed (answer_of t))
marked_more h (Edited e opened) zero = Begins-more _ _ _ (Begins-refl h.answers)
marked_more h (Edited e opened) (suc n) = Begins-nil _
marked_more h Nothing n = Begins-nil _
marked_more h (Failed id code) n = Begins-nil _
marked_more h (Logged method reason) n = Begins-nil _
marked_more h (Began id agreed) n = Begins-nil _
marked_more h (Kept f) n = Begins-nil _
marked_more h (Ended id) n = Begins-nil _

shut_more : (h : History) (t : Told) → ((sd : Shut) → h.shutdown ≡ Some sd → Begins sd.answered h.answers) →
    (sd : Shut) → shutdown_of h t ≡ Some sd → Begins sd.answered (h.answers ++ listed (answer_of t))
shut_more h (Ended id) p sd e = Begins-more _ _ _ (let q : sd.answered ≡ h.answers = ap (λ (x : Shut). x.answered) (sym (some_same e)) in subst (λ x. Begins x h.answers) (sym q) (Begins-refl h.answers))
shut_more h (Edited x opened) p sd e = Begins-more _ _ _ (p sd e)
shut_more h Nothing p sd e = Begins-more _ _ _ (p sd e)
shut_more h (Failed id code) p sd e = Begins-more _ _ _ (p sd e)
shut_more h (Logged method reason) p sd e = Begins-more _ _ _ (p sd e)
shut_more h (Began id agreed) p sd e = Begins-more _ _ _ (p sd e)
shut_more h (Kept f) p sd e = Begins-more _ _ _ (p sd e)

quiet_more : (h : History) (t : Told) → Fits h.session.phase t → Quiet h.session.phase h.edits h.shutdown →
    Quiet (after_told h.session t).phase (h.edits ++ edit_of t) (shutdown_of h t)
quiet_more h (Edited e opened) f q = by_phase h.session.phase f q
  where
    by_phase : (p : Phase) → Fits p (Edited e opened) → Quiet p h.edits h.shutdown → Quiet p (h.edits ++ e ∷ []) h.shutdown
    by_phase Waiting f q = absurd f
    by_phase Serving f q = q
    by_phase Closing f q = absurd f
quiet_more h (Began id agreed) f q = by_phase h.session.phase f q
  where
    by_phase : (p : Phase) → Fits p (Began id agreed) → Quiet p h.edits h.shutdown → h.shutdown ≡ None
    by_phase Waiting f q = q.1
    by_phase Serving f q = absurd f
    by_phase Closing f q = absurd f
quiet_more h (Ended id) f q = refl
quiet_more h Nothing f q = simp append-nil q
quiet_more h (Failed id code) f q = simp append-nil q
quiet_more h (Logged method reason) f q = simp append-nil q
quiet_more h (Kept x) f q = simp append-nil q

after_all-append : (p : Project) (xs ys : List Edit) → after_all p (xs ++ ys) ≡ after_all (after_all p xs) ys
after_all-append p [] ys = refl
after_all-append p (x ∷ xs) ys = after_all-append (after_edit p x) xs ys

project_more : (base : Project) (h : History) (t : Told) → h.session.documents.project ≡ after_all base h.edits →
    (after_told h.session t).documents.project ≡ after_all base (h.edits ++ edit_of t)
project_more base h (Edited e opened) p = ap (λ x. after_edit x e) p ∙ sym (after_all-append base h.edits (e ∷ []))
project_more base h Nothing p = rw append-nil p
project_more base h (Failed id code) p = rw append-nil p
project_more base h (Logged method reason) p = rw append-nil p
project_more base h (Began id agreed) p = rw append-nil p
project_more base h (Kept f) p = rw append-nil p
project_more base h (Ended id) p = rw append-nil p

pub heard_sound : (base : Project) (h : History) (t : Told) → Fits h.session.phase t → Sound base h → Sound base (heard_as h t)
heard_sound base h t f s = record {
  counted = counted_more h t s.counted;
  marked = λ n. get_or-append_each (λ x. Begins x (h.answers ++ listed (answer_of t))) h.answered (answers_at_edit h.answers t) n
      (λ k. Begins-more _ _ _ (s.marked k)) (marked_more h t);
  shut = shut_more h t s.shut;
  quiet = quiet_more h t f s.quiet;
  project = project_more base h t s.project;
}

all_sound : (base : Project) (h : History) (ms : List Msg) → Sound base h → Sound base (heard_all h ms)
all_sound base h [] s = s
all_sound base h (m ∷ ms) s = all_sound base (heard h m) ms (heard_sound base h (told h.session m) (told_fits h.session m) s)

pub history_sound : (base : Project) (ms : List Msg) → Sound base (history base ms)
history_sound base ms = all_sound base (no_history base) ms (no_history_sound base)

pub heard_all-append : (h : History) (xs ys : List Msg) → heard_all h (xs ++ ys) ≡ heard_all (heard_all h xs) ys
heard_all-append h [] ys = refl
heard_all-append h (x ∷ xs) ys = heard_all-append (heard h x) xs ys
