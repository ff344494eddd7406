-- The laws of legality: it holds of each part from the start, stays with more messages after, and grows at the end.
use Rattle.std.proofs.Common.{◌≡◌, ℕ, suc, zero, ◌≤◌, true, ◌||◌, List, [], ◌∷◌, ◌++◌, length, refl, sym, ap, subst, arith, append_assoc, length-append}
use Rattle.std.specs.Prelude.{Some}
use Rattle.std.proofs.lemmas.List.{append-nil, take-append-le}
use Rattle.std.proofs.Math.ListN.{get_or-append}
use Rattle.std.proofs.lemmas.Bool.Decides.{nat_tests}
use Rattle.lsp_msg.specs.declared.msg.Msg.{Msg}
use Rattle.lsp_msg.specs.declared.out.Out.{Out}
use Rattle.lsp_msg.specs.declared.out.Out.TheVariants as out
use Rattle.lsp_msg.specs.declared.placed.Placed.{Placed}
use Rattle.lsp_docs.specs.Paths.{Path}
use Rattle.lsp_docs.specs.Projects.{Project, Edit, after_all, after}
use Rattle.lsp_docs.specs.Documents.{Agreed}
use Rattle.run_core.specs.Language.{Language}
use Rattle.run_core.specs.Sessions.{Phase, Waiting, Serving, Closing, Session, Told, Nothing, Failed, Logged, Began, Edited, Kept, Ended, told, after_told}
use Rattle.run_core.specs.Histories.{Shutdown, History, edit_of, answers_at_edit, shutdown_of, heard_as, heard, heard_all, history, is_edited, is_known, answered_before}
use Rattle.run_core.specs.Legal.{IsBegun, MayFarewell, MayList, MayStand, EachMayStand, LegalSoFar}
use Rattle.run_core.proofs.Messages.{Begins-more}
use Rattle.run_core.proofs.Histories.{Fits, told_fits, Quiet, Sound, heard_sound, history_sound, heard_all-append}

-- ---- one more message

pub begun_stays : (s : Session) (t : Told) → IsBegun s.phase → IsBegun (after_told s t).phase
begun_stays s (Began id agreed) b = tt
begun_stays s (Ended id) b = tt
begun_stays s (Edited e opened) b = b
begun_stays s (Kept f) b = b
begun_stays s Nothing b = b
begun_stays s (Failed id code) b = b
begun_stays s (Logged method reason) b = b

not_again : (p : Phase) (id : _) (agreed : Agreed) → Fits p (Began id agreed) → IsBegun p → ⊥
not_again Waiting id agreed f b = b
not_again Serving id agreed f b = f
not_again Closing id agreed f b = f

pub agreed_stays : (s : Session) (t : Told) → Fits s.phase t → IsBegun s.phase → (after_told s t).documents.agreed ≡ s.documents.agreed
agreed_stays s (Began id agreed) f b = absurd (not_again s.phase id agreed f b)
agreed_stays s (Ended id) f b = refl
agreed_stays s (Edited e opened) f b = refl
agreed_stays s (Kept x) f b = refl
agreed_stays s Nothing f b = refl
agreed_stays s (Failed id code) f b = refl
agreed_stays s (Logged method reason) f b = refl

pub is_edited-append : (f : Path) (xs ys : List Edit) → is_edited f (xs ++ ys) ≡ (is_edited f xs || is_edited f ys)
is_edited-append f [] ys = refl
is_edited-append f (e ∷ es) ys = let ih = is_edited-append f es ys in grind (arith, nat_tests, ih)

pub known_stays : (base : Project) (es more : List Edit) (f : Path) → is_known base es f ≡ true → is_known base (es ++ more) f ≡ true
known_stays base es more f k = let e = is_edited-append f es more in grind (arith, nat_tests, e, k)

answered_stays : (h : History) (t : Told) (n : ℕ) → length h.answered ≡ length h.edits → n ≤ length h.edits →
    answered_before (heard_as h t) n ≡ answered_before h n
answered_stays h t zero p q = refl
answered_stays h t (suc n) p q = get_or-append h.answered (answers_at_edit h.answers t) [] n (omega arith)

after_stays : (base : Project) (es more : List Edit) (n : ℕ) → n ≤ length es → after base (es ++ more) n ≡ after base es n
after_stays base es more n p = ap (after_all base) (take-append-le n es more p)

shutdown_stays : (h : History) (t : Told) (sd : Shutdown) → Fits h.session.phase t → Quiet h.session.phase h.edits h.shutdown →
    h.shutdown ≡ Some sd → shutdown_of h t ≡ Some sd
shutdown_stays h (Ended id) sd f q e = absurd (by_phase h.session.phase f q)
  where
    by_phase : (p : Phase) → Fits p (Ended id) → Quiet p h.edits h.shutdown → ⊥
    by_phase Waiting f q = f
    by_phase Serving f q = cc
    by_phase Closing f q = f
shutdown_stays h (Began id agreed) sd f q e = e
shutdown_stays h (Edited x opened) sd f q e = e
shutdown_stays h (Kept x) sd f q e = e
shutdown_stays h Nothing sd f q e = e
shutdown_stays h (Failed id code) sd f q e = e
shutdown_stays h (Logged method reason) sd f q e = e

module _ (language : Language) (base : Project) (h : History) (t : Told) (fits : Fits h.session.phase t) (sound : Sound base h) where
  list_stays : (front : List Out) (uri : List ℕ) (n : ℕ) (items : List Placed) → MayList language base h front uri n items →
      MayList language base (heard_as h t) front uri n items
  list_stays front uri n items may =
      let agreed = agreed_stays h.session t fits may.begun in
      record {
        begun = begun_stays h.session t may.begun;
        greeted = may.greeted;
        serving = may.serving;
        rising = may.rising;
        reached = let r = may.reached in simp length-append (omega arith);
        answered = rw (answered_stays h t n sound.counted may.reached) may.answered;
        path = may.path;
        known = known_stays base h.edits (edit_of t) may.path may.known;
        named = rw agreed may.named;
        right = rw (agreed, after_stays base h.edits (edit_of t) n may.reached) may.right;
      }

  farewell_stays : (front : List Out) (id : _) → MayFarewell h front id → MayFarewell (heard_as h t) front id
  farewell_stays front id may = record {
    shutdown = may.shutdown;
    accepted = shutdown_stays h t may.shutdown fits sound.quiet may.accepted;
    same = may.same;
    answered = may.answered;
    once = may.once;
  }

  stands_still : (front : List Out) (x : Out) → MayStand language base h front x → MayStand language base (heard_as h t) front x
  stands_still front (out.List uri n items) may = list_stays front uri n items may
  stands_still front (out.Null id) may = farewell_stays front id may
  stands_still front (out.Initialized id encoding) may = Begins-more _ _ _ may
  stands_still front (out.Error id code) may = Begins-more _ _ _ may
  stands_still front (out.Log method reason) may = Begins-more _ _ _ may

-- What may stand may stand with one more message.
pub each_stays : (language : Language) (base : Project) (h : History) (t : Told) → Fits h.session.phase t → Sound base h →
    (front xs : List Out) → EachMayStand language base h front xs → EachMayStand language base (heard_as h t) front xs
each_stays language base h t f s front [] may = tt
each_stays language base h t f s front (x ∷ xs) may =
    (stands_still language base h t f s front x may.0, each_stays language base h t f s (front ++ x ∷ []) xs may.1)

all_stay : (language : Language) (base : Project) (h : History) (ms : List Msg) → Sound base h →
    (xs : List Out) → EachMayStand language base h [] xs → EachMayStand language base (heard_all h ms) [] xs
all_stay language base h [] s xs may = may
all_stay language base h (m ∷ ms) s xs may =
    let f = told_fits h.session m in
    let t = told h.session m in
    all_stay language base (heard h m) ms (heard_sound base h t f s) xs (each_stays language base h t f s [] xs may)

-- What is legal so far stays so with more messages after.
pub legal_stays : (language : Language) (base : Project) (ms more : List Msg) (xs : List Out) →
    LegalSoFar language base ms xs → LegalSoFar language base (ms ++ more) xs
legal_stays language base ms more xs legal =
    subst (λ h. EachMayStand language base h [] xs) (sym (heard_all-append _ ms more))
    (all_stay language base (history base ms) more (history_sound base ms) xs legal)

-- ---- parts and ends

each_part : (language : Language) (base : Project) (h : History) (front xs ys : List Out) →
    EachMayStand language base h front (xs ++ ys) → EachMayStand language base h front xs
each_part language base h front [] ys may = tt
each_part language base h front (x ∷ xs) ys may = (may.0, each_part language base h (front ++ x ∷ []) xs ys may.1)

-- Each part from the start of what is legal so far is legal so far.
pub legal_part : (language : Language) (base : Project) (ms : List Msg) (xs ys : List Out) →
    LegalSoFar language base ms (xs ++ ys) → LegalSoFar language base ms xs
legal_part language base ms xs ys legal = each_part language base (history base ms) [] xs ys legal

-- What may stand after all of them may stand at their end.
pub each_end : (language : Language) (base : Project) (h : History) (front xs : List Out) (x : Out) →
    EachMayStand language base h front xs → MayStand language base h (front ++ xs) x → EachMayStand language base h front (xs ++ x ∷ [])
each_end language base h front [] x may one = (subst (λ f. MayStand language base h f x) (append-nil front) one, tt)
each_end language base h front (y ∷ ys) x may one =
    (may.0, each_end language base h (front ++ y ∷ []) ys x may.1 (subst (λ f. MayStand language base h f x) (sym (append_assoc front (y ∷ []) ys)) one))
