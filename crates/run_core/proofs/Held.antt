-- What holds of the machine after each run, and what makes it legal.
use Rattle.std.proofs.Common.{◌≡◌, ℕ, suc, zero, ◌+◌, ◌≤◌, Bool, true, false, ◌&&◌, ◌||◌, List, [], ◌∷◌, ◌++◌, length, get_or, refl, sym, ap, ap₂, ◌∙◌, subst, ⊎_elim, arith, length-append}
use Rattle.std.specs.Prelude.{Option, Some, None, bytes_eq, is_some, unwrap_or, map, ⊤}
use Rattle.std.proofs.lemmas.List.{append-nil}
use Rattle.std.proofs.Math.Seq.{take-length}
use Rattle.std.proofs.lemmas.Bool.{and_parts, not-true, or_cases, both_ways}
use Rattle.std.proofs.lemmas.Bool.Decides.{nat_tests}
use Rattle.lsp_msg.specs.declared.id.Id.{Id}
use Rattle.lsp_msg.specs.declared.out.Out.{Out}
use Rattle.lsp_msg.specs.declared.out.Out.TheVariants as out
use Rattle.srb_terms.specs.Projects.{bytes_at}
use Rattle.lsp_docs.specs.Paths.{Path, has, with_path, without_path}
use Rattle.lsp_docs.specs.Projects.{Project, Edit, after_edit, after_all, after, with_bytes, paths_of}
use Rattle.lsp_docs.specs.Documents.{Agreed, uri_of, placed}
use Rattle.lsp_docs.proofs.PathLemmas.{has-with_path, has-without_path, has-with_paths, has-paths_of, bytes_at-with_bytes}
use Rattle.lsp_docs.specs.Uris.{is_empty}
use Rattle.srb_terms.specs.declared.diag.Diag.{Diag}
use Rattle.run_watch.specs.declared.step.Step.TheVariants.{Build, Work, Idle}
use Rattle.run_core.specs.Language.{Language, list_of}
use Rattle.run_core.specs.Sessions.{Phase, Waiting, Serving, Closing, Session, Told, Nothing, Failed, Logged, Began, Edited, Kept, Ended, after_told, answer_of}
use Rattle.run_core.specs.Histories.{Shutdown, History, no_history, listed, edit_of, shutdown_of, heard_as, is_edited, is_known, answered_before}
use Rattle.run_core.specs.Legal.{Begins, answers_in, has_greeting, has_farewell, NoneNewer, IsBegun, MayStand, EachMayStand}
use Rattle.run_core.specs.Machine.{State, opening, project_of, looked, is_at_rest, may_work, after_taken_edit, after_message, next, written}
use Rattle.run_core.proofs.Messages.{Begins-nil, answers_in-append, has_greeting-append, has_farewell-append, NoneNewer-append, NoneNewer-more, answers_in-answer, NoneNewer-answer}
use Rattle.run_core.proofs.Histories.{Fits, Quiet, Sound, no_history_sound, heard_sound}
use Rattle.run_core.proofs.Legality.{is_edited-append, known_stays, each_stays, each_end}

-- before `initialize` nothing is stale or to be worked on
abbrev pub WaitingFits : Phase → Bool → List Path → Type 0
WaitingFits Waiting stale todo = (stale ≡ false) × (todo ≡ [])
WaitingFits Serving stale todo = ⊤
WaitingFits Closing stale todo = ⊤

-- the reply to `shutdown` is owed and not written, or is written where nothing is left
abbrev pub FarewellFits : Option Id → Option Shutdown → List Out → Bool → List Path → Type 0
FarewellFits None None os stale todo = has_farewell os ≡ false
FarewellFits None (Some sd) os stale todo = (has_farewell os ≡ true) × (stale ≡ false) × (todo ≡ [])
FarewellFits (Some id) None os stale todo = ⊥
FarewellFits (Some id) (Some sd) os stale todo = (id ≡ sd.id) × (has_farewell os ≡ false)

pub record Held (language : Language) (base : Project) (h : History) (os : List Out) (session : Session) (epoch : ℕ) (stale : Bool) (todo owed : List Path) (owing : Option Id) : Type 0 where
  pub same : session ≡ h.session
  pub counted : epoch ≡ length h.edits
  pub sound : Sound base h
  pub answered : answers_in os ≡ h.answers
  pub bounded : NoneNewer epoch os
  pub legal : EachMayStand language base h [] os
  pub greeted : IsBegun h.session.phase → has_greeting os ≡ true
  pub waiting : WaitingFits h.session.phase stale todo
  pub farewell : FarewellFits owing h.shutdown os stale todo
  pub todo_known : (f : Path) → has f todo ≡ true → is_known base h.edits f ≡ true
  pub owed_known : (f : Path) → has f owed ≡ true → is_known base h.edits f ≡ true

abbrev pub Holds : Language → Project → History → List Out → State → Type 0
Holds language base h os s = Held language base h os s.session s.epoch s.stale s.todo s.owed s.owing

pub opening_held : (language : Language) (base : Project) → Holds language base (no_history base) [] (opening base)
opening_held language base = record {
  same = refl;
  counted = refl;
  sound = no_history_sound base;
  answered = refl;
  bounded = tt;
  legal = tt;
  greeted = λ b. absurd b;
  waiting = (refl, refl);
  farewell = refl;
  todo_known = λ f e. absurd cc;
  owed_known = λ f e. absurd cc;
}

-- ---- a message is taken

edit_epoch : (s : State) (k : Bool) (f : Path) → (after_taken_edit s k f).epoch ≡ s.epoch + 1
edit_epoch s true f = refl
edit_epoch s false f = refl

counted_take : (language : Language) (s : State) (h : History) (t : Told) → s.epoch ≡ length h.edits →
    (after_message language s t).epoch ≡ length (h.edits ++ edit_of t)
counted_take language s h (Edited e opened) p = edit_epoch s _ e.path ∙ simp length-append (omega arith)
counted_take language s h Nothing p = rw append-nil p
counted_take language s h (Failed id code) p = rw append-nil p
counted_take language s h (Logged method reason) p = rw append-nil p
counted_take language s h (Began id agreed) p = rw append-nil p
counted_take language s h (Kept f) p = rw append-nil p
counted_take language s h (Ended id) p = rw append-nil p

epoch_rises : (language : Language) (s : State) (t : Told) → s.epoch ≤ (after_message language s t).epoch
epoch_rises language s (Edited e opened) = let p = edit_epoch s (language.keeps (project_of s) e) e.path in omega arith
epoch_rises language s Nothing = omega arith
epoch_rises language s (Failed id code) = omega arith
epoch_rises language s (Logged method reason) = omega arith
epoch_rises language s (Began id agreed) = omega arith
epoch_rises language s (Kept f) = omega arith
epoch_rises language s (Ended id) = omega arith

waiting_take : (language : Language) (s : State) (p : Phase) (d : _) (t : Told) → s.session ≡ record { phase = p; documents = d } → Fits p t → WaitingFits p s.stale s.todo →
    WaitingFits (after_told (record { phase = p; documents = d }) t).phase (after_message language s t).stale (after_message language s t).todo
waiting_take language s Waiting d (Edited e opened) i f w = absurd f
waiting_take language s Serving d (Edited e opened) i f w = tt
waiting_take language s Closing d (Edited e opened) i f w = tt
waiting_take language s p d (Began id agreed) i f w = tt
waiting_take language s p d (Ended id) i f w = tt
waiting_take language s p d Nothing i f w = w
waiting_take language s p d (Failed id code) i f w = w
waiting_take language s p d (Logged method reason) i f w = w
waiting_take language s p d (Kept x) i f w = w

-- an answer leaves what holds of the reply to `shutdown`
farewell_same : (o : Option Id) (sd : Option Shutdown) (os more : List Out) (stale : Bool) (todo : List Path) → has_farewell more ≡ false →
    FarewellFits o sd os stale todo → FarewellFits o sd (os ++ more) stale todo
farewell_same None None os more stale todo p f = has_farewell-append os more ∙ (let g : has_farewell os ≡ false = f in grind (arith, nat_tests, p, g))
farewell_same None (Some sd) os more stale todo p f = (has_farewell-append os more ∙ (let g = f.0 in grind (arith, nat_tests, p, g)), f.1, f.2)
farewell_same (Some id) None os more stale todo p f = f
farewell_same (Some id) (Some sd) os more stale todo p f = (f.0, has_farewell-append os more ∙ (let g = f.1 in grind (arith, nat_tests, p, g)))

-- with no `shutdown` taken, whatever becomes stale or has to be worked on is fine
farewell_free : (o : Option Id) (sd : Option Shutdown) (os : List Out) (stale stale' : Bool) (todo todo' : List Path) → sd ≡ None →
    FarewellFits o sd os stale todo → FarewellFits o sd os stale' todo'
farewell_free None None os stale stale' todo todo' p f = f
farewell_free None (Some sd) os stale stale' todo todo' p f = absurd cc
farewell_free (Some id) None os stale stale' todo todo' p f = f
farewell_free (Some id) (Some sd) os stale stale' todo todo' p f = f

farewell_owed : (o : Option Id) (sd : Option Shutdown) (os : List Out) (stale : Bool) (todo : List Path) (id : Id) (answers : List Out) → sd ≡ None →
    FarewellFits o sd os stale todo → FarewellFits (Some id) (Some (record { id = id; answered = answers })) os stale todo
farewell_owed None None os stale todo id answers p f = (refl, f)
farewell_owed None (Some sd) os stale todo id answers p f = absurd cc
farewell_owed (Some x) None os stale todo id answers p f = absurd f
farewell_owed (Some x) (Some sd) os stale todo id answers p f = absurd cc

-- a message that begins, edits or ends comes before any `shutdown`
none_before : (p : Phase) (es : List Edit) (sd : Option Shutdown) (t : Told) → Fits p t → Quiet p es sd → (p ≡ Closing → ⊥) → sd ≡ None
none_before Waiting es sd t f q n = q.1
none_before Serving es sd t f q n = q
none_before Closing es sd t f q n = absurd (n refl)

edit_owing : (s : State) (k : Bool) (f : Path) → (after_taken_edit s k f).owing ≡ s.owing
edit_owing s true f = refl
edit_owing s false f = refl

not_closing_edit : (p : Phase) (e : Edit) (o : List Path) → Fits p (Edited e o) → p ≡ Closing → ⊥
not_closing_edit Waiting e o f q = f
not_closing_edit Serving e o f q = cc
not_closing_edit Closing e o f q = f

not_closing_began : (p : Phase) (id : Id) (a : Agreed) → Fits p (Began id a) → p ≡ Closing → ⊥
not_closing_began Waiting id a f q = cc
not_closing_began Serving id a f q = f
not_closing_began Closing id a f q = f

not_closing_ended : (p : Phase) (id : Id) → Fits p (Ended id) → p ≡ Closing → ⊥
not_closing_ended Waiting id f q = f
not_closing_ended Serving id f q = cc
not_closing_ended Closing id f q = f

farewell_take : (language : Language) (s : State) (h : History) (os : List Out) (t : Told) → Fits h.session.phase t → Quiet h.session.phase h.edits h.shutdown →
    FarewellFits s.owing h.shutdown os s.stale s.todo →
    FarewellFits (after_message language s t).owing (shutdown_of h t) (os ++ listed (answer_of t)) (after_message language s t).stale (after_message language s t).todo
farewell_take language s h os (Edited e opened) f q w =
    let none = none_before h.session.phase h.edits h.shutdown (Edited e opened) f q (not_closing_edit h.session.phase e opened f) in
    let after = after_taken_edit s (language.keeps (project_of s) e) e.path in
    subst (λ o. FarewellFits o h.shutdown (os ++ []) after.stale after.todo) (sym (edit_owing s (language.keeps (project_of s) e) e.path))
    (farewell_same s.owing h.shutdown os [] _ _ refl (farewell_free s.owing h.shutdown os s.stale _ s.todo _ none w))
farewell_take language s h os (Began id agreed) f q w =
    let none = none_before h.session.phase h.edits h.shutdown (Began id agreed) f q (not_closing_began h.session.phase id agreed f) in
    farewell_same s.owing h.shutdown os (out.Initialized id agreed.encoding ∷ []) true s.todo refl (farewell_free s.owing h.shutdown os s.stale true s.todo s.todo none w)
farewell_take language s h os (Ended id) f q w =
    let none = none_before h.session.phase h.edits h.shutdown (Ended id) f q (not_closing_ended h.session.phase id f) in
    farewell_same (Some id) (Some (record { id = id; answered = h.answers })) os [] s.stale s.todo refl
    (farewell_owed s.owing h.shutdown os s.stale s.todo id h.answers none w)
farewell_take language s h os Nothing f q w = farewell_same s.owing h.shutdown os [] s.stale s.todo refl w
farewell_take language s h os (Failed id code) f q w = farewell_same s.owing h.shutdown os _ s.stale s.todo refl w
farewell_take language s h os (Logged method reason) f q w = farewell_same s.owing h.shutdown os _ s.stale s.todo refl w
farewell_take language s h os (Kept x) f q w = farewell_same s.owing h.shutdown os [] s.stale s.todo refl w

-- the answer is the next one
answer_legal : (language : Language) (base : Project) (h : History) (os : List Out) (t : Told) → answers_in os ≡ h.answers →
    EachMayStand language base (heard_as h t) [] os → EachMayStand language base (heard_as h t) [] (os ++ listed (answer_of t))
answer_legal language base h os (Failed id code) e may =
    each_end language base _ [] os (out.Error id code) may ([], sym (append-nil _ ∙ ap (λ x. x ++ out.Error id code ∷ []) e))
answer_legal language base h os (Logged method reason) e may =
    each_end language base _ [] os (out.Log method reason) may ([], sym (append-nil _ ∙ ap (λ x. x ++ out.Log method reason ∷ []) e))
answer_legal language base h os (Began id agreed) e may =
    each_end language base _ [] os (out.Initialized id agreed.encoding) may ([], sym (append-nil _ ∙ ap (λ x. x ++ out.Initialized id agreed.encoding ∷ []) e))
answer_legal language base h os Nothing e may = subst (EachMayStand language base (heard_as h Nothing) []) (sym (append-nil os)) may
answer_legal language base h os (Edited x opened) e may = subst (EachMayStand language base (heard_as h (Edited x opened)) []) (sym (append-nil os)) may
answer_legal language base h os (Kept f) e may = subst (EachMayStand language base (heard_as h (Kept f)) []) (sym (append-nil os)) may
answer_legal language base h os (Ended id) e may = subst (EachMayStand language base (heard_as h (Ended id)) []) (sym (append-nil os)) may

greeted_take : (s : Session) (os : List Out) (t : Told) → Fits s.phase t → (IsBegun s.phase → has_greeting os ≡ true) →
    IsBegun (after_told s t).phase → has_greeting (os ++ listed (answer_of t)) ≡ true
greeted_take s os (Began id agreed) f g b = has_greeting-append os _ ∙ grind (arith, nat_tests)
greeted_take s os (Ended id) f g b = rw append-nil (g (by_phase s.phase f))
  where
    by_phase : (p : Phase) → Fits p (Ended id) → IsBegun p
    by_phase Waiting f = f
    by_phase Serving f = tt
    by_phase Closing f = tt
greeted_take s os Nothing f g b = rw append-nil (g b)
greeted_take s os (Edited e opened) f g b = rw append-nil (g b)
greeted_take s os (Kept x) f g b = rw append-nil (g b)
greeted_take s os (Failed id code) f g b = has_greeting-append os _ ∙ (let p = g b in grind (arith, nat_tests, p))
greeted_take s os (Logged method reason) f g b = has_greeting-append os _ ∙ (let p = g b in grind (arith, nat_tests, p))

known_edit : (base : Project) (es : List Edit) (e : Edit) (f : Path) → bytes_eq f e.path ≡ true → is_known base (es ++ e ∷ []) f ≡ true
known_edit base es e f p = let a = is_edited-append f es (e ∷ []) in grind (arith, nat_tests, a, p)

known_with : (base : Project) (es : List Edit) (e : Edit) (gs : List Path) → ((f : Path) → has f gs ≡ true → is_known base es f ≡ true) →
    (f : Path) → has f (with_path e.path gs) ≡ true → is_known base (es ++ e ∷ []) f ≡ true
known_with base es e gs known f p =
    ⊎_elim (λ q. known_edit base es e f q) (λ q. known_stays base es (e ∷ []) f (known f q))
    (or_cases (bytes_eq f e.path) (has f gs) (sym (has-with_path f e.path gs) ∙ p))

known_todo : (base : Project) (es : List Edit) (e : Edit) (s : State) (k : Bool) → ((f : Path) → has f s.todo ≡ true → is_known base es f ≡ true) →
    (f : Path) → has f (after_taken_edit s k e.path).todo ≡ true → is_known base (es ++ e ∷ []) f ≡ true
known_todo base es e s true known f p = known_with base es e s.todo known f p
known_todo base es e s false known f p = known_stays base es (e ∷ []) f (known f p)

known_owed : (base : Project) (es : List Edit) (e : Edit) (s : State) (k : Bool) → ((f : Path) → has f s.owed ≡ true → is_known base es f ≡ true) →
    (f : Path) → has f (after_taken_edit s k e.path).owed ≡ true → is_known base (es ++ e ∷ []) f ≡ true
known_owed base es e s true known f p = known_with base es e s.owed known f p
known_owed base es e s false known f p = known_with base es e s.owed known f p

known_take : (language : Language) (base : Project) (s : State) (h : History) (t : Told) → ((f : Path) → has f s.todo ≡ true → is_known base h.edits f ≡ true) →
    (f : Path) → has f (after_message language s t).todo ≡ true → is_known base (h.edits ++ edit_of t) f ≡ true
known_take language base s h (Edited e opened) known f p = known_todo base h.edits e s (language.keeps (project_of s) e) known f p
known_take language base s h Nothing known f p = rw append-nil (known f p)
known_take language base s h (Failed id code) known f p = rw append-nil (known f p)
known_take language base s h (Logged method reason) known f p = rw append-nil (known f p)
known_take language base s h (Began id agreed) known f p = rw append-nil (known f p)
known_take language base s h (Kept x) known f p = rw append-nil (known f p)
known_take language base s h (Ended id) known f p = rw append-nil (known f p)

owed_take : (language : Language) (base : Project) (s : State) (h : History) (t : Told) → ((f : Path) → has f s.owed ≡ true → is_known base h.edits f ≡ true) →
    (f : Path) → has f (after_message language s t).owed ≡ true → is_known base (h.edits ++ edit_of t) f ≡ true
owed_take language base s h (Edited e opened) known f p = known_owed base h.edits e s (language.keeps (project_of s) e) known f p
owed_take language base s h Nothing known f p = rw append-nil (known f p)
owed_take language base s h (Failed id code) known f p = rw append-nil (known f p)
owed_take language base s h (Logged method reason) known f p = rw append-nil (known f p)
owed_take language base s h (Began id agreed) known f p = rw append-nil (known f p)
owed_take language base s h (Kept x) known f p = rw append-nil (known f p)
owed_take language base s h (Ended id) known f p = rw append-nil (known f p)

pub held_take : (language : Language) (base : Project) (h : History) (os : List Out) (s : State) (t : Told) → Fits h.session.phase t →
    Holds language base h os s → Holds language base (heard_as h t) (os ++ listed (answer_of t)) (after_message language s t)
held_take language base h os s t fits held = record {
  same = ap (λ x. after_told x t) held.same;
  counted = counted_take language s h t held.counted;
  sound = heard_sound base h t fits held.sound;
  answered = answers_in-append os _ ∙ ap₂ (λ x y. x ++ y) held.answered (answers_in-answer t);
  bounded = NoneNewer-append _ os _ (NoneNewer-more s.epoch _ os (epoch_rises language s t) held.bounded) (NoneNewer-answer _ t);
  legal = answer_legal language base h os t held.answered (each_stays language base h t fits held.sound [] os held.legal);
  greeted = greeted_take h.session os t fits held.greeted;
  waiting = waiting_take language s h.session.phase h.session.documents t held.same fits held.waiting;
  farewell = farewell_take language s h os t fits held.sound.quiet held.farewell;
  todo_known = known_take language base s h t held.todo_known;
  owed_known = owed_take language base s h t held.owed_known;
}

-- ---- a build

-- a file of the project after an edit is the edit's or was there
one_edit : (base : Project) (f g : Path) (o : Option (List ℕ)) → is_some (bytes_at f (with_bytes g o base)) ≡ true → (bytes_eq f g || is_some (bytes_at f base)) ≡ true
one_edit base f g o q = let l = bytes_at-with_bytes f g o base in grind (arith, nat_tests, l, q)

-- a file of the project is known
known_file : (base : Project) (es : List Edit) (f : Path) → is_some (bytes_at f (after_all base es)) ≡ true → is_known base es f ≡ true
known_file base [] f p = let q : is_some (bytes_at f base) ≡ true = p in grind (arith, nat_tests, q)
known_file base (e ∷ es) f p =
    let ih : (is_some (bytes_at f (after_edit base e)) || is_edited f es) ≡ true = known_file (after_edit base e) es f p in
    ⊎_elim
    (λ q. let one = one_edit base f e.path e.now q in grind (arith, nat_tests, one))
    (λ q. grind (arith, nat_tests, q))
    (or_cases _ _ ih)

known_project : (base : Project) (h : History) (s : State) (f : Path) → s.session ≡ h.session → Sound base h → is_some (bytes_at f (project_of s)) ≡ true → is_known base h.edits f ≡ true
known_project base h s f same sound p =
    known_file base h.edits f (subst (λ x. is_some (bytes_at f x) ≡ true) (ap (λ (x : Session). x.documents.project) same ∙ sound.project) p)

waiting_build : (p : Phase) (stale : Bool) (todo todo' : List Path) → stale ≡ true → WaitingFits p stale todo → WaitingFits p false todo'
waiting_build Waiting stale todo todo' e w = absurd (both_ways stale w.0 e)
waiting_build Serving stale todo todo' e w = tt
waiting_build Closing stale todo todo' e w = tt

farewell_build : (o : Option Id) (sd : Option Shutdown) (os : List Out) (stale : Bool) (todo todo' : List Path) → stale ≡ true →
    FarewellFits o sd os stale todo → FarewellFits o sd os false todo'
farewell_build None None os stale todo todo' e f = f
farewell_build None (Some sd) os stale todo todo' e f = absurd (both_ways stale f.1 e)
farewell_build (Some id) None os stale todo todo' e f = f
farewell_build (Some id) (Some sd) os stale todo todo' e f = f

pub held_build : (language : Language) (base : Project) (h : History) (os : List Out) (s : State) → (looked s && s.stale) ≡ true →
    Holds language base h os s → Holds language base h os (next language s Build)
held_build language base h os s ready held =
    let stale = (and_parts (looked s) s.stale ready).1 in
    record {
      same = held.same;
      counted = held.counted;
      sound = held.sound;
      answered = held.answered;
      bounded = held.bounded;
      legal = held.legal;
      greeted = held.greeted;
      waiting = waiting_build h.session.phase s.stale s.todo _ stale held.waiting;
      farewell = farewell_build s.owing h.shutdown os s.stale s.todo _ stale held.farewell;
      todo_known = λ f p. ⊎_elim
          (λ q. known_project base h s f held.same held.sound (sym (has-paths_of f (project_of s)) ∙ q))
          (λ q. held.owed_known f q)
          (or_cases _ _ (sym (has-with_paths f (paths_of (project_of s)) s.owed) ∙ p));
      owed_known = held.owed_known;
    }

-- ---- a file is worked on

-- what a step that works on a file may count on
pub record Ready (s : State) (f : Path) : Type 0 where
  pub looked : looked s ≡ true
  pub built : s.stale ≡ false
  pub asked : has f s.todo ≡ true
  pub first : (has f s.owed || is_empty s.owed) ≡ true

pub may_work_parts : (s : State) (f : Path) → may_work s f ≡ true → Ready s f
may_work_parts s f p =
    let a = and_parts _ _ p in
    let b = and_parts _ _ a.0 in
    let c = and_parts _ _ b.0 in
    record { looked = c.0; built = not-true s.stale c.1; asked = b.1; first = a.1 }

pub begun_at_work : (p : Phase) (stale : Bool) (todo : List Path) (f : Path) → has f todo ≡ true → WaitingFits p stale todo → IsBegun p
begun_at_work Waiting stale todo f p w = both_ways (has f todo) (ap (has f) w.1) p
begun_at_work Serving stale todo f p w = tt
begun_at_work Closing stale todo f p w = tt

none_at_work : (o : Option Id) (sd : Option Shutdown) (os : List Out) (stale : Bool) (todo : List Path) (f : Path) → has f todo ≡ true →
    FarewellFits o sd os stale todo → has_farewell os ≡ false
none_at_work None None os stale todo f p w = w
none_at_work None (Some sd) os stale todo f p w = absurd (both_ways (has f todo) (ap (has f) w.2) p)
none_at_work (Some id) None os stale todo f p w = absurd w
none_at_work (Some id) (Some sd) os stale todo f p w = w.1

waiting_work : (p : Phase) (stale : Bool) (todo todo' : List Path) → IsBegun p → WaitingFits p stale todo'
waiting_work Waiting stale todo todo' b = absurd b
waiting_work Serving stale todo todo' b = tt
waiting_work Closing stale todo todo' b = tt

farewell_work : (o : Option Id) (sd : Option Shutdown) (os : List Out) (stale : Bool) (todo todo' : List Path) (f : Path) → has f todo ≡ true →
    FarewellFits o sd os stale todo → FarewellFits o sd os stale todo'
farewell_work None None os stale todo todo' f p w = w
farewell_work None (Some sd) os stale todo todo' f p w = absurd (both_ways (has f todo) (ap (has f) w.2) p)
farewell_work (Some id) None os stale todo todo' f p w = w
farewell_work (Some id) (Some sd) os stale todo todo' f p w = w

fewer_known : (P : Path → Type 0) (g : Path) (gs : List Path) → ((f : Path) → has f gs ≡ true → P f) → (f : Path) → has f (without_path g gs) ≡ true → P f
fewer_known P g gs all f p = all f (and_parts _ _ (sym (has-without_path f g gs) ∙ p)).1

-- after the last of the edits
after_last : (base : Project) (es : List Edit) → after base es (length es) ≡ after_all base es
after_last base es = ap (after_all base) (take-length es)

answered_held : (base : Project) (h : History) (os : List Out) (n : ℕ) → Sound base h → answers_in os ≡ h.answers → Begins (answered_before h n) (answers_in os)
answered_held base h os zero sound e = Begins-nil _
answered_held base h os (suc n) sound e = subst (Begins (get_or h.answered n [])) (sym e) (sound.marked n)

-- the list that a file's work writes
abbrev pub list_written : State → Path → ℕ → List Diag → Out
list_written s f n list = out.List (uri_of s.session.documents.agreed f) n
    (map (placed s.session.documents.agreed.encoding (unwrap_or (bytes_at f (project_of s)) [])) list)

list_right : (language : Language) (base : Project) (h : History) (s : State) (f : Path) (n : ℕ) (list : List Diag) → s.session ≡ h.session → Sound base h → s.epoch ≡ length h.edits → n ≡ s.epoch →
    list ≡ language.fresh (project_of s) f →
    map (placed s.session.documents.agreed.encoding (unwrap_or (bytes_at f (project_of s)) [])) list ≡ list_of language h.session.documents.agreed (after base h.edits n) f
list_right language base h s f n list same sound counted now fresh =
    let there : project_of s ≡ after base h.edits n =
    ap (λ (x : Session). x.documents.project) same ∙ sound.project ∙ sym (after_last base h.edits) ∙ ap (after base h.edits) (sym (now ∙ counted)) in
    let agreed = ap (λ (x : Session). x.documents.agreed) same in
    ap₂ (λ (a : Agreed) p. map (placed a.encoding (unwrap_or (bytes_at f p) [])) list) agreed there
    ∙ ap (λ l. map (placed h.session.documents.agreed.encoding (unwrap_or (bytes_at f (after base h.edits n)) [])) l) (fresh ∙ ap (λ p. language.fresh p f) there)

list_legal : (language : Language) (base : Project) (h : History) (os : List Out) (s : State) (f : Path) (n : ℕ) (list : List Diag) →
    Ready s f → n ≡ s.epoch → list ≡ language.fresh (project_of s) f → Holds language base h os s →
    MayStand language base h os (list_written s f n list)
list_legal language base h os s f n list ready now fresh held =
    let begun = begun_at_work h.session.phase s.stale s.todo f ready.asked held.waiting in
    record {
      begun = begun;
      greeted = held.greeted begun;
      serving = none_at_work s.owing h.shutdown os s.stale s.todo f ready.asked held.farewell;
      rising = subst (λ k. NoneNewer k os) (sym now) held.bounded;
      reached = let c = held.counted in omega arith;
      answered = answered_held base h os n held.sound held.answered;
      path = f;
      known = held.todo_known f ready.asked;
      named = ap (λ (x : Session). uri_of x.documents.agreed f) held.same;
      right = list_right language base h s f n list held.same held.sound held.counted now fresh;
    }

pub held_quiet_work : (language : Language) (base : Project) (h : History) (os : List Out) (s : State) (f : Path) (n : ℕ) (list : List Diag) →
    Ready s f → Holds language base h os s → Holds language base h os (next language s (Work f n list false))
held_quiet_work language base h os s f n list ready held =
    let begun = begun_at_work h.session.phase s.stale s.todo f ready.asked held.waiting in
    record {
      same = held.same;
      counted = held.counted;
      sound = held.sound;
      answered = held.answered;
      bounded = held.bounded;
      legal = held.legal;
      greeted = held.greeted;
      waiting = waiting_work h.session.phase s.stale s.todo _ begun;
      farewell = farewell_work s.owing h.shutdown os s.stale s.todo _ f ready.asked held.farewell;
      todo_known = fewer_known (λ g. is_known base h.edits g ≡ true) f s.todo held.todo_known;
      owed_known = fewer_known (λ g. is_known base h.edits g ≡ true) f s.owed held.owed_known;
    }

pub held_work : (language : Language) (base : Project) (h : History) (os : List Out) (s : State) (f : Path) (n : ℕ) (list : List Diag) →
    Ready s f → n ≡ s.epoch → list ≡ language.fresh (project_of s) f → Holds language base h os s →
    Holds language base h (os ++ list_written s f n list ∷ []) (next language s (Work f n list true))
held_work language base h os s f n list ready now fresh held =
    let begun = begun_at_work h.session.phase s.stale s.todo f ready.asked held.waiting in
    record {
      same = held.same;
      counted = held.counted;
      sound = held.sound;
      answered = answers_in-append os _ ∙ append-nil _ ∙ held.answered;
      bounded = NoneNewer-append s.epoch os _ held.bounded (omega arith, tt);
      legal = each_end language base h [] os _ held.legal (list_legal language base h os s f n list ready now fresh held);
      greeted = λ b. has_greeting-append os _ ∙ (let g = held.greeted b in grind (arith, nat_tests, g));
      waiting = waiting_work h.session.phase s.stale s.todo _ begun;
      farewell = farewell_same s.owing h.shutdown os _ s.stale _ refl (farewell_work s.owing h.shutdown os s.stale s.todo _ f ready.asked held.farewell);
      todo_known = fewer_known (λ g. is_known base h.edits g ≡ true) f s.todo held.todo_known;
      owed_known = fewer_known (λ g. is_known base h.edits g ≡ true) f s.owed held.owed_known;
    }

-- ---- nothing is left

pub is_empty_nil : (gs : List Path) → is_empty gs ≡ true → gs ≡ []
is_empty_nil [] p = refl
is_empty_nil (g ∷ gs) p = absurd cc

-- the reply that an idle step writes
abbrev pub farewell_written : Option Id → Option Out
farewell_written o = elim o [ None ↦ None | Some id ↦ Some (out.Null id) ]

module _ (language : Language) (base : Project) (h : History) (os : List Out) (s : State) (rest : is_at_rest s ≡ true) (held : Holds language base h os s) where
  farewell_legal : (o : Option Id) (sd : Option Shutdown) → h.shutdown ≡ sd → FarewellFits o sd os s.stale s.todo →
      EachMayStand language base h [] (os ++ listed (farewell_written o))
  farewell_legal None sd e f = subst (EachMayStand language base h []) (sym (append-nil os)) held.legal
  farewell_legal (Some id) None e f = absurd f
  farewell_legal (Some id) (Some sd) e f = each_end language base h [] os (out.Null id) held.legal (record {
    shutdown = sd;
    accepted = e;
    same = f.0;
    answered = subst (Begins sd.answered) (sym held.answered) (held.sound.shut sd e);
    once = f.1;
  })

  farewell_idle : (o : Option Id) (sd : Option Shutdown) → FarewellFits o sd os s.stale s.todo →
      FarewellFits None sd (os ++ listed (farewell_written o)) s.stale s.todo
  farewell_idle None sd f = farewell_same None sd os [] s.stale s.todo refl f
  farewell_idle (Some id) None f = absurd f
  farewell_idle (Some id) (Some sd) f =
      let parts = and_parts _ _ rest in
      (has_farewell-append os _ ∙ grind (arith, nat_tests), not-true s.stale parts.0, is_empty_nil s.todo parts.1)

  answers_idle : (o : Option Id) → answers_in (os ++ listed (farewell_written o)) ≡ h.answers
  answers_idle None = answers_in-append os [] ∙ append-nil _ ∙ held.answered
  answers_idle (Some id) = answers_in-append os _ ∙ append-nil _ ∙ held.answered

  bounded_idle : (o : Option Id) → NoneNewer s.epoch (os ++ listed (farewell_written o))
  bounded_idle None = NoneNewer-append s.epoch os [] held.bounded tt
  bounded_idle (Some id) = NoneNewer-append s.epoch os _ held.bounded tt

  pub held_idle : Holds language base h (os ++ listed (written s Idle)) (next language s Idle)
  held_idle = record {
    same = held.same;
    counted = held.counted;
    sound = held.sound;
    answered = answers_idle s.owing;
    bounded = bounded_idle s.owing;
    legal = farewell_legal s.owing h.shutdown refl held.farewell;
    greeted = λ b. has_greeting-append os _ ∙ (let g = held.greeted b in grind (arith, nat_tests, g));
    waiting = held.waiting;
    farewell = farewell_idle s.owing h.shutdown held.farewell;
    todo_known = held.todo_known;
    owed_known = held.owed_known;
  }
