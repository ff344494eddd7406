-- A session as a whole, from what its reader put and what its coordinator heard and did.
use Rattle.std.proofs.Common.{◌≡◌, ◌⊎◌, inl, inr, ℕ, Bool, true, false, if◌then◌else◌, List, [], ◌∷◌, ◌++◌, map, None, Some, Result, Ok, Err, OnOk, refl, sym, ap, ◌∙◌, subst, arith, append_assoc, append-nil}
use Rattle.std.proofs.KnownBytes.{Consumes-nil}
use Rattle.std.specs.Prelude.{Option, nat_lt, is_some, unwrap_or}
use Rattle.std.proofs.lemmas.List.{map-append}
use Rattle.std.specs.Io.KnownBytes.{Consumes}
use Rattle.std.specs.Option.{option_map}
use Rattle.srb_terms.specs.declared.cause.Cause.{Cause}
use Rattle.srb_terms.specs.declared.cause.Cause.TheVariants as cause
use Rattle.srb_terms.specs.Projects.{IsProject}
use Rattle.lsp_msg.specs.declared.msg.Msg.{Msg as Message}
use Rattle.lsp_docs.specs.Projects.{Project}
use Rattle.lsp_frame.specs.Bodies.{bodies_of, Ending}
use Rattle.lsp_frame.specs.Bodies.Ending.{Closed, Torn, Malformed, PastLimit}
use Rattle.lsp_msg.specs.Decoded.{decoded}
use Rattle.run_watch.specs.declared.end_cause.EndCause.{EndCause}
use Rattle.run_watch.specs.declared.end_cause.EndCause.TheVariants as end
use Rattle.run_watch.specs.declared.inp.Inp.{Inp}
use Rattle.run_watch.specs.declared.inp.Inp.TheVariants.{Msg, End}
use Rattle.run_watch.specs.declared.step.Step.{Step}
use Rattle.run_watch.specs.declared.step.Step.TheVariants.{Take, Look, Build, Work, Dropped, Idle}
use Rattle.run_queues.specs.declared.heard.Heard.{Heard}
use Rattle.run_queues.specs.declared.heard.Heard.TheVariants.{Took, Empty}
use Rattle.run_queues.specs.Mails.{inputs}
use Rattle.run_queues.specs.Deliveries.{IsFront}
use Rattle.run_core.specs.declared.phase.Phase.{Phase}
use Rattle.run_core.specs.declared.phase.Phase.TheVariants.{Waiting, Serving, Closing}
use Rattle.run_core.specs.Histories.{Shutdown, history}
use Rattle.run_core.specs.Inputs.{messages_of, has_exit, end_of, end_after, inputs_of}
use Rattle.run_core.specs.Language.{Language}
use Rattle.run_core.specs.Legal.{IsBegun, Legal, LegalSoFar}
use Rattle.run_core.specs.Settled.{Settled}
use Rattle.run_core.specs.Sessions.{Told, Nothing, Failed, Logged, Began, Edited, Kept as Saved, Ended, told}
use Rattle.run_core.specs.Machine.{State, opening, project_of, next, after_taken, after_taken_edit}
use Rattle.run_core.specs.Runs.{messages_in, outs, state_after, IsOver, Leads, Over}
use Rattle.run_core.specs.Cores.{checked_language, is_closing, end_taken}
use Rattle.run_core.proofs.Histories.{Quiet, history_sound}
use Rattle.run_core.proofs.KeptFacts.{checked_is_language}
use Rattle.run_core.proofs.Legality.{legal_part, legal_stays}
use Rattle.run_core.proofs.Runs.{run_held, run_is_legal, run_is_legal_so_far}
use Rattle.run_core.proofs.Shown.{run_is_settled}
use Rattle.run_serve.specs.declared.serve_end.ServeEnd.{ServeEnd}
use Rattle.run_serve.specs.declared.serve_end.ServeEnd.TheVariants.{WriteFault, NoMemory}
use Rattle.run_serve.specs.Causes.{cause_of, IsCauseBy}
use Rattle.run_serve.specs.Course.{Course, NoWriteFailed, AWriteFailed}
use Rattle.run_serve.specs.Deeds.{Kept, AreWhole, Did, DidPart, DidFront, Turns, hearing_in, hearings_in, is_lost}
use Rattle.run_serve.specs.Hearing.{HeardAll, HeardFront, IsCut, EndsSo, AreSent}
use Rattle.run_serve.specs.Recorded.{Tracing, ServesRecorded, RecordsWhole, RecordsPart, RecordsFront, TakesFront, input_in, inputs_in}
use Rattle.run_serve.specs.Served.{is_shut, has_failed, ServesWhole, ServesPart, ServesFront}
use Rattle.run_serve.proofs.Deeds.{no_step}

-- a `shutdown` was accepted exactly where the session is closing
closing_so : (p : Phase) (edits : _) (s : Option Shutdown) → Quiet p edits s → is_closing p ≡ is_some s
closing_so Waiting edits s quiet = sym (ap is_some quiet.1)
closing_so Serving edits s quiet = sym (ap is_some quiet)
closing_so Closing edits s quiet = sym quiet

-- ---- inputs and their messages

-- the messages that an input is
abbrev heard_in : Inp → List Message
heard_in (Msg message) = message ∷ []
heard_in (End cause) = []

-- the messages among inputs
abbrev heard_among : List Inp → List Message
heard_among [] = []
heard_among (inp ∷ is) = heard_in inp ++ heard_among is

messages_among : (steps : List Step) → messages_in steps ≡ heard_among (inputs_in steps)
messages_among [] = refl
messages_among (Take (Msg m) ∷ xs) = ap (λ k. m ∷ k) (messages_among xs)
messages_among (Take (End e) ∷ xs) = messages_among xs
messages_among (Look ∷ xs) = messages_among xs
messages_among (Build ∷ xs) = messages_among xs
messages_among (Work f n list b ∷ xs) = messages_among xs
messages_among (Dropped f ∷ xs) = messages_among xs
messages_among (Idle ∷ xs) = messages_among xs

heard_among-append : (is js : List Inp) → heard_among (is ++ js) ≡ heard_among is ++ heard_among js
heard_among-append [] js = refl
heard_among-append (i ∷ is) js = ap (λ k. heard_in i ++ k) (heard_among-append is js) ∙ sym (append_assoc (heard_in i) (heard_among is) (heard_among js))

heard_among-messages : (ms : List Message) → heard_among (map Msg ms) ≡ ms
heard_among-messages [] = refl
heard_among-messages (m ∷ ms) = ap (λ k. m ∷ k) (heard_among-messages ms)

-- the messages of all inputs
heard_of : (read : List ℕ) (failed : Bool) → heard_among (inputs_of read failed) ≡ messages_of read
heard_of read failed =
    heard_among-append (map Msg (messages_of read)) (End (end_of read failed) ∷ []) ∙ append-nil (heard_among (map Msg (messages_of read)))
    ∙ heard_among-messages (messages_of read)

-- ---- what was heard, and what was taken

inputs-append : (hs ks : List Heard) → inputs (hs ++ ks) ≡ inputs hs ++ inputs ks
inputs-append [] ks = refl
inputs-append (Took i ∷ hs) ks = ap (λ k. i ∷ k) (inputs-append hs ks)
inputs-append (Empty ∷ hs) ks = inputs-append hs ks

inputs_heard : (xs : List Step) → inputs (hearings_in xs) ≡ inputs_in xs
inputs_heard [] = refl
inputs_heard (Take i ∷ xs) = ap (λ k. i ∷ k) (inputs_heard xs)
inputs_heard (Look ∷ xs) = inputs_heard xs
inputs_heard (Build ∷ xs) = inputs_heard xs
inputs_heard (Work f n list b ∷ xs) = inputs_heard xs
inputs_heard (Dropped f ∷ xs) = inputs_heard xs
inputs_heard (Idle ∷ xs) = inputs_heard xs

-- the last end among inputs
abbrev last_end : Option EndCause → List Inp → Option EndCause
last_end o [] = o
last_end o (Msg m ∷ is) = last_end o is
last_end o (End e ∷ is) = last_end (Some e) is

ended_edited : (s : State) (keeps : Bool) (f : List ℕ) → (after_taken_edit s keeps f).ended ≡ s.ended
ended_edited s true f = refl
ended_edited s false f = refl

ended_told : (l : Language) (s : State) (t : Told) → (after_taken l s t).ended ≡ s.ended
ended_told l s Nothing = refl
ended_told l s (Failed id code) = refl
ended_told l s (Logged method reason) = refl
ended_told l s (Began id agreed) = refl
ended_told l s (Edited e opened) = ended_edited s (l.keeps (project_of s) e) e.path
ended_told l s (Saved f) = refl
ended_told l s (Ended id) = refl

ended_after : (l : Language) (s : State) (xs : List Step) → (state_after l s xs).ended ≡ last_end s.ended (inputs_in xs)
ended_after l s [] = refl
ended_after l s (Take (Msg m) ∷ xs) =
    ended_after l (next l s (Take (Msg m))) xs ∙ ap (λ o. last_end o (inputs_in xs)) (ended_told l s (told s.session m))
ended_after l s (Take (End e) ∷ xs) = ended_after l (next l s (Take (End e))) xs
ended_after l s (Look ∷ xs) = ended_after l (next l s Look) xs
ended_after l s (Build ∷ xs) = ended_after l (next l s Build) xs
ended_after l s (Work f n list b ∷ xs) = ended_after l (next l s (Work f n list b)) xs
ended_after l s (Dropped f ∷ xs) = ended_after l s xs
ended_after l s (Idle ∷ xs) = ended_after l (next l s Idle) xs

last_end-messages : (o : Option EndCause) (xs ws : List Inp) (ms : List Message) → map Msg ms ≡ xs ++ ws → last_end o xs ≡ o
last_end-messages o [] ws ms e = refl
last_end-messages o (x ∷ xs) ws [] e = absurd (let wrong : [] ≡ x ∷ (xs ++ ws) = e in cc)
last_end-messages o (Msg m ∷ xs) ws (n ∷ ms) e = last_end-messages o xs ws ms (let tails : map Msg ms ≡ xs ++ ws = cc in tails)
last_end-messages o (End x ∷ xs) ws (n ∷ ms) e = absurd (let wrong : Msg n ≡ End x = cc in cc)

last_end-last : (o : Option EndCause) (ms : List Message) (e : EndCause) → last_end o (map Msg ms ++ End e ∷ []) ≡ Some e
last_end-last o [] e = refl
last_end-last o (m ∷ ms) e = last_end-last o ms e

-- the first part of a list with one at its end is all of it, or one of the list before that
front_of : (xs ys zs : List Inp) (z : Inp) → zs ++ z ∷ [] ≡ xs ++ ys → (xs ≡ zs ++ z ∷ []) ⊎ ((ws : List Inp) × (zs ≡ xs ++ ws))
front_of [] ys zs z e = inr (zs, refl)
front_of (x ∷ xs) ys [] z e = only xs ys (let tails : [] ≡ xs ++ ys = cc in tails) (let heads : z ≡ x = cc in heads)
  where
    only : (xs ys : List Inp) → [] ≡ xs ++ ys → z ≡ x → (x ∷ xs ≡ z ∷ []) ⊎ ((ws : List Inp) × ([] ≡ x ∷ (xs ++ ws)))
    only [] ys e h = inl (ap (λ k. k ∷ []) (sym h))
    only (y ∷ xs) ys e h = absurd (let wrong : [] ≡ y ∷ (xs ++ ys) = e in cc)
front_of (x ∷ xs) ys (c ∷ zs) z e =
    more (let heads : c ≡ x = cc in heads) (front_of xs ys zs z (let tails : zs ++ z ∷ [] ≡ xs ++ ys = cc in tails))
  where
    more : c ≡ x → (xs ≡ zs ++ z ∷ []) ⊎ ((ws : List Inp) × (zs ≡ xs ++ ws)) → (x ∷ xs ≡ c ∷ (zs ++ z ∷ [])) ⊎ ((ws : List Inp) × (c ∷ zs ≡ x ∷ (xs ++ ws)))
    more h (inl e) = inl (ap (λ k. k ∷ xs) (sym h) ∙ ap (λ k. c ∷ k) e)
    more h (inr (ws, e)) = inr (ws, ap (λ k. k ∷ zs) h ∙ ap (λ k. x ∷ k) e)

-- where nothing that was heard is lost, the inputs don't end so
not_lost : (hs : List Heard) (ms : List Message) → AreWhole hs → inputs hs ≡ map Msg ms ++ End end.NoMemory ∷ [] → ⊥
not_lost [] [] whole e = let wrong : [] ≡ End end.NoMemory ∷ [] = e in cc
not_lost [] (m ∷ ms) whole e = let wrong : [] ≡ Msg m ∷ (map Msg ms ++ End end.NoMemory ∷ []) = e in cc
not_lost (Empty ∷ hs) ms whole e = not_lost hs ms whole.1 e
not_lost (Took i ∷ hs) [] whole e =
    let same : i ≡ End end.NoMemory = cc in
    absurd (let wrong : true ≡ false = sym (ap (λ k. is_lost (Took k)) same) ∙ whole.0 in cc)
not_lost (Took i ∷ hs) (m ∷ ms) whole e = not_lost hs ms whole.1 (let tails : inputs hs ≡ map Msg ms ++ End end.NoMemory ∷ [] = cc in tails)

-- ---- what was put, and what was read

-- The source gave bytes whose inputs begin with these.
record Begins (left_before left : Option (List ℕ)) (reads_before reads : ℕ) (is : List Inp) : Type 0 where
  read : List ℕ
  more : List Inp
  gave : Consumes left_before left read
  same : inputs_of read (nat_lt reads_before reads) ≡ is ++ more

begins_with : (left_before left : Option (List ℕ)) (before now : ℕ) (ms : List Message) → HeardFront left_before left ms → Begins left_before left before now (map Msg ms)
begins_with left_before left before now ms heard =
    let e = End (end_of heard.read (nat_lt before now)) ∷ [] in
    record {
      read = heard.read;
      more = map Msg heard.more ++ e;
      gave = heard.gave;
      same = ap (λ k. map Msg k ++ e) heard.same ∙ ap (λ k. k ++ e) (map-append Msg ms heard.more) ∙ append_assoc (map Msg ms) (map Msg heard.more) e;
    }

-- the inputs that were heard are all, where the last of them is an end
all_inputs : (left_before left : Option (List ℕ)) (before now : ℕ) (ms : List Message) (e : EndCause) → (heard : HeardAll left_before left before now ms e)
    → map Msg ms ++ End e ∷ [] ≡ inputs_of heard.read (nat_lt before now)
all_inputs left_before left before now ms e heard =
    ap (λ k. map Msg k ++ End e ∷ []) (sym heard.same) ∙ ap (λ k. map Msg (messages_of heard.read) ++ End k ∷ []) heard.ended

-- a first part of inputs
begins_front : (left_before left : Option (List ℕ)) (before now : ℕ) (xs ys zs : List Inp) → zs ≡ xs ++ ys → Begins left_before left before now zs
    → Begins left_before left before now xs
begins_front left_before left before now xs ys zs e b = record {
  read = b.read;
  more = ys ++ b.more;
  gave = b.gave;
  same = b.same ∙ ap (λ k. k ++ b.more) e ∙ append_assoc xs ys b.more;
}

-- all inputs
begins_all : (left_before left : Option (List ℕ)) (before now : ℕ) (ms : List Message) (e : EndCause) → HeardAll left_before left before now ms e
    → Begins left_before left before now (map Msg ms ++ End e ∷ [])
begins_all left_before left before now ms e heard = record {
  read = heard.read;
  more = [];
  gave = heard.gave;
  same = sym (all_inputs left_before left before now ms e heard) ∙ sym (append-nil (map Msg ms ++ End e ∷ []));
}

-- what a reader put, by how it ends
data IsPut (left_before left : Option (List ℕ)) (before now : ℕ) (sent : List Inp) : Type 0 where
  SentWhole : (ms : List Message) (cause : EndCause) → sent ≡ map Msg ms ++ End cause ∷ [] → HeardAll left_before left before now ms cause
      → IsPut left_before left before now sent
  SentFront : (ms : List Message) (ending : List Inp) → sent ≡ map Msg ms ++ ending → IsCut ending → HeardFront left_before left ms → IsPut left_before left before now sent

put_so : (left_before left : Option (List ℕ)) (before now : ℕ) (sent : List Inp) → AreSent left_before left before now sent → IsPut left_before left before now sent
put_so left_before left before now sent are = by are.ends
  where
    by : EndsSo left_before left before now are.messages are.ending → IsPut left_before left before now sent
    by (inl (e, is, heard)) = IsPut.SentWhole are.messages e (are.put ∙ ap (λ k. map Msg are.messages ++ k) is) heard
    by (inr (cut, heard)) = IsPut.SentFront are.messages are.ending are.put cut heard

-- what was heard where nothing is lost are the first inputs
begins_heard : (left_before left : Option (List ℕ)) (before now : ℕ) (sent : List Inp) (hs : List Heard) → IsPut left_before left before now sent → IsFront hs sent
    → AreWhole hs → Begins left_before left before now (inputs hs)
begins_heard left_before left before now sent hs (IsPut.SentWhole ms e is heard) front whole =
    begins_front left_before left before now (inputs hs) front.0 (map Msg ms ++ End e ∷ []) (sym is ∙ front.1) (begins_all left_before left before now ms e heard)
begins_heard left_before left before now sent hs (IsPut.SentFront ms ending is cut heard) front whole = by cut
  where
    first : Begins left_before left before now (map Msg ms)
    first = begins_with left_before left before now ms heard

    by : IsCut ending → Begins left_before left before now (inputs hs)
    by (inl none) =
        begins_front left_before left before now (inputs hs) front.0 (map Msg ms)
        (sym (append-nil (map Msg ms)) ∙ ap (λ k. map Msg ms ++ k) (sym none) ∙ sym is ∙ front.1) first
    by (inr lost) = chosen (front_of (inputs hs) front.0 (map Msg ms) (End end.NoMemory) (ap (λ k. map Msg ms ++ k) (sym lost) ∙ sym is ∙ front.1))
      where
        chosen : (inputs hs ≡ map Msg ms ++ End end.NoMemory ∷ []) ⊎ ((ws : List Inp) × (map Msg ms ≡ inputs hs ++ ws)) → Begins left_before left before now (inputs hs)
        chosen (inl all) = absurd (not_lost hs ms whole all)
        chosen (inr (ws, e)) = begins_front left_before left before now (inputs hs) ws (map Msg ms) e first

-- The source gave bytes of whose inputs the first are taken, perhaps with the end that tells that memory ran out.
record Taken (left_before left : Option (List ℕ)) (reads_before reads : ℕ) (taken : List Inp) : Type 0 where
  read : List ℕ
  gave : Consumes left_before left read
  takes : TakesFront taken (inputs_of read (nat_lt reads_before reads))

taken_first : (left_before left : Option (List ℕ)) (before now : ℕ) (is : List Inp) → Begins left_before left before now is → Taken left_before left before now is
taken_first left_before left before now is b = record { read = b.read; gave = b.gave; takes = (is, b.more, b.same, inl refl) }

taken_of : (left_before left : Option (List ℕ)) (before now : ℕ) (sent taken rest : List Inp) → IsPut left_before left before now sent → sent ≡ taken ++ rest
    → Taken left_before left before now taken
taken_of left_before left before now sent taken rest (IsPut.SentWhole ms e is heard) front =
    taken_first left_before left before now taken
    (begins_front left_before left before now taken rest (map Msg ms ++ End e ∷ []) (sym is ∙ front) (begins_all left_before left before now ms e heard))
taken_of left_before left before now sent taken rest (IsPut.SentFront ms ending is cut heard) front = by cut
  where
    first : Begins left_before left before now (map Msg ms)
    first = begins_with left_before left before now ms heard

    by : IsCut ending → Taken left_before left before now taken
    by (inl none) =
        taken_first left_before left before now taken
        (begins_front left_before left before now taken rest (map Msg ms) (sym (append-nil (map Msg ms)) ∙ ap (λ k. map Msg ms ++ k) (sym none) ∙ sym is ∙ front) first)
    by (inr lost) = chosen (front_of taken rest (map Msg ms) (End end.NoMemory) (ap (λ k. map Msg ms ++ k) (sym lost) ∙ sym is ∙ front))
      where
        chosen : (taken ≡ map Msg ms ++ End end.NoMemory ∷ []) ⊎ ((ws : List Inp) × (map Msg ms ≡ taken ++ ws)) → Taken left_before left before now taken
        chosen (inl all) = record { read = first.read; gave = first.gave; takes = (map Msg ms, first.more, first.same, inr all) }
        chosen (inr (ws, e)) = taken_first left_before left before now taken (begins_front left_before left before now taken ws (map Msg ms) e first)

-- the messages taken are the first messages
messages_taken : (taken : List Inp) (read : List ℕ) (failed : Bool) → TakesFront taken (inputs_of read failed)
    → (more : List Message) × (heard_among taken ++ more ≡ messages_of read)
messages_taken taken read failed (front, later, same, is) = (heard_among later, ap (λ k. k ++ heard_among later) (by is) ∙ sym (heard_among-append front later) ∙ sym (ap heard_among same) ∙ heard_of read failed)
  where
    by : (taken ≡ front) ⊎ (taken ≡ front ++ End end.NoMemory ∷ []) → heard_among taken ≡ heard_among front
    by (inl e) = ap heard_among e
    by (inr e) = ap heard_among e ∙ heard_among-append front (End end.NoMemory ∷ []) ∙ append-nil (heard_among front)

-- ---- how a session ends, and what a trace has of it

abbrev pub before : Course → Tracing → Kept
before c t = record { held = c.held_before; told = t.told_before }

abbrev pub after : Course → Tracing → Kept
after c t = record { held = c.held_after; told = t.told_after }

closing_is_shut : (base : Project) (ms : List Message) (t : State) (steps : List Step) → Leads checked_language (opening base) steps
    → t ≡ state_after checked_language (opening base) steps → messages_in steps ≡ ms → is_closing t.session.phase ≡ is_shut base ms
closing_is_shut base ms t steps leads there same =
    let held = run_held checked_language base steps leads in
    let sound = history_sound base (messages_in steps) in
    let past = history base (messages_in steps) in
    ap (λ s. is_closing s.session.phase) there ∙ ap (λ s. is_closing s.phase) held.same
    ∙ closing_so past.session.phase past.edits past.shutdown sound.quiet ∙ ap (is_shut base) same

-- the end of a session isn't to be out of memory, which ends it at once
not_want : (b : Bool) (x : Ending) (f : Bool) → end.NoMemory ≡ (if b then end.Exit else end_after x f) → ⊥
not_want true x f e = cc
not_want false Closed true e = cc
not_want false Closed false e = cc
not_want false (Torn at) true e = cc
not_want false (Torn at) false e = cc
not_want false (Malformed at) f e = cc
not_want false (PastLimit size) f e = cc

serves_so : (base : Project) (c : Course) (t : Tracing) (read : List ℕ) (f : Bool) (e : EndCause) (accepted : Bool) → e ≡ end_of read f
    → ServesWhole base (cause_of e accepted) c × RecordsWhole base c t → ServesRecorded base (cause_of e accepted) c t
serves_so base c t read f end.Exit true is w = w
serves_so base c t read f end.Exit false is w = w
serves_so base c t read f end.Closed accepted is w = w
serves_so base c t read f (end.Broken at) accepted is w = w
serves_so base c t read f (end.TooLong size) accepted is w = w
serves_so base c t read f end.Fault accepted is w = w
serves_so base c t read f end.NoMemory accepted is w = absurd (not_want (has_exit (map decoded (bodies_of read).list)) (bodies_of read).end f is)

some_same : {X : Type 0} (x y : X) → Some x ≡ Some y → x ≡ y
some_same x y e = ap (λ o. unwrap_or o x) e

module _ (base : Project) (c : Course) (t : Tracing) where
  served_whole : (cause : Cause) (ms : List Message) (s : State) (e : EndCause) (hs : List Heard) → IsProject base
      → HeardAll c.left_before c.left_after c.reads_before c.reads_after ms e → Did (opening base) hs s (before c t) (after c t)
      → inputs hs ≡ map Msg ms ++ End e ∷ [] → IsOver s → NoWriteFailed c → cause ≡ cause_of e (is_closing s.session.phase)
      → ServesWhole base cause c × RecordsWhole base c t
  served_whole cause ms s e hs ordered heard did all over unfailed is =
      let l = checked_language in
      let written = outs l base did.steps in
      let done : Over l base did.steps = subst IsOver did.there over in
      let took : inputs_in did.steps ≡ inputs_of heard.read (has_failed c) =
      sym (inputs_heard did.steps) ∙ ap inputs did.took ∙ all ∙ all_inputs c.left_before c.left_after c.reads_before c.reads_after ms e heard in
      let same : messages_in did.steps ≡ messages_of heard.read = messages_among did.steps ∙ ap heard_among took ∙ heard_of heard.read (has_failed c) in
      let shut = closing_is_shut base (messages_of heard.read) s did.steps did.leads did.there same in (
        record {
          read = heard.read;
          outs = written;
          reads = heard.gave;
          writes = did.writes;
          legal = subst (λ k. Legal l base k written) same (run_is_legal l base did.steps did.leads done);
          settled = λ begun. subst (λ k. Settled l base k written) same
              (run_is_settled l checked_is_language base ordered did.steps did.leads done (subst (λ k. IsBegun (history base k).session.phase) (sym same) begun));
          ended = is ∙ ap (λ k. cause_of k (is_closing s.session.phase)) heard.ended ∙ ap (cause_of (end_of heard.read (has_failed c))) shut;
          to_end = heard.to_end;
          unfailed = unfailed;
        },
        record {
          read = heard.read;
          steps = did.steps;
          reads = heard.gave;
          gains = did.gains;
          run = did.leads;
          took = took;
          over = done;
          writes = did.writes;
        },
      )

  served_part : (hs : List Heard) (s : State) → Begins c.left_before c.left_after c.reads_before c.reads_after (inputs hs)
      → DidPart (opening base) hs s (before c t) (after c t) → AWriteFailed c → ServesPart base c × RecordsPart base c t
  served_part hs s begins did failed =
      let l = checked_language in
      let legal = subst (LegalSoFar l base (messages_in did.steps)) did.wrote (run_is_legal_so_far l base did.steps did.leads) in
      let taken : inputs_in did.steps ≡ inputs hs = sym (inputs_heard did.steps) ∙ ap inputs did.took in
      let took : inputs_of begins.read (has_failed c) ≡ inputs_in did.steps ++ begins.more = begins.same ∙ ap (λ k. k ++ begins.more) (sym taken) in
      let first = messages_taken (inputs_in did.steps) begins.read (has_failed c) (inputs_in did.steps, begins.more, took, inl refl) in
      let same : messages_in did.steps ++ first.0 ≡ messages_of begins.read = ap (λ k. k ++ first.0) (messages_among did.steps) ∙ first.1 in (
        record {
          read = begins.read;
          outs = did.outs;
          last = did.last;
          part = did.part;
          reads = begins.gave;
          short = did.short;
          writes = did.writes;
          legal = subst (λ k. LegalSoFar l base k (did.outs ++ did.last ∷ [])) same (legal_stays l base (messages_in did.steps) first.0 _ legal);
          failed = failed;
        },
        record {
          read = begins.read;
          steps = did.steps;
          later = begins.more;
          whole = did.outs;
          last = did.last;
          part = did.part;
          reads = begins.gave;
          gains = did.gains;
          run = did.leads;
          took = took;
          wrote = did.wrote;
          short = did.short;
          writes = did.writes;
        },
      )

  served_front : (hs : List Heard) (sent : List Inp) → IsPut c.left_before c.left_after c.reads_before c.reads_after sent → IsFront hs sent
      → DidFront (opening base) hs (before c t) (after c t) → NoWriteFailed c → ServesFront base c × RecordsFront base c t
  served_front hs sent are front did unfailed =
      let l = checked_language in
      let legal = subst (LegalSoFar l base (messages_in did.steps)) did.wrote (run_is_legal_so_far l base did.steps did.leads) in
      let parts : sent ≡ inputs_in did.steps ++ (inputs did.later ++ front.0) =
      front.1 ∙ ap (λ k. inputs k ++ front.0) did.took ∙ ap (λ k. k ++ front.0) (inputs-append (hearings_in did.steps) did.later)
      ∙ append_assoc (inputs (hearings_in did.steps)) (inputs did.later) front.0 ∙ ap (λ k. k ++ (inputs did.later ++ front.0)) (inputs_heard did.steps) in
      let taken = taken_of c.left_before c.left_after c.reads_before c.reads_after sent (inputs_in did.steps) (inputs did.later ++ front.0) are parts in
      let first = messages_taken (inputs_in did.steps) taken.read (has_failed c) taken.takes in
      let same : messages_in did.steps ++ first.0 ≡ messages_of taken.read = ap (λ k. k ++ first.0) (messages_among did.steps) ∙ first.1 in (
        record {
          read = taken.read;
          outs = did.outs;
          reads = taken.gave;
          writes = did.writes;
          legal = subst (λ k. LegalSoFar l base k did.outs) same
              (legal_stays l base (messages_in did.steps) first.0 did.outs (legal_part l base (messages_in did.steps) did.outs did.rest legal));
          unfailed = unfailed;
        },
        record {
          read = taken.read;
          steps = did.steps;
          whole = did.outs;
          unwritten = did.rest;
          reads = taken.gave;
          gains = did.gains;
          run = did.leads;
          took = taken.takes;
          wrote = did.wrote;
          writes = did.writes;
        },
      )

  -- the end was taken, so all that was put was heard, and it is the end of what was read
  served_over : (s : State) (sent : List Inp) (hs : List Heard) (p : EndCause × Bool) → IsProject base
      → IsPut c.left_before c.left_after c.reads_before c.reads_after sent → IsFront hs sent → Did (opening base) hs s (before c t) (after c t) → AreWhole hs
      → IsOver s → NoWriteFailed c → end_taken s ≡ Some p → ServesRecorded base (cause_of p.0 p.1) c t
  served_over s sent hs p ordered are front did whole over unfailed is = by are
    where
      ended : s.ended ≡ last_end None (inputs hs)
      ended = ap (λ (k : State). k.ended) did.there ∙ ended_after checked_language (opening base) did.steps
          ∙ ap (last_end None) (sym (inputs_heard did.steps) ∙ ap inputs did.took)

      no_end : (ws : List Inp) (ms : List Message) → map Msg ms ≡ inputs hs ++ ws → ⊥
      no_end ws ms e = let wrong : true ≡ false = sym over.ended ∙ ap is_some (ended ∙ last_end-messages None (inputs hs) ws ms e) in cc

      closing : Bool
      closing = is_closing s.session.phase

      taken : EndCause → EndCause × Bool
      taken e = (e, closing)

      finish : (ms : List Message) (x : EndCause) → HeardAll c.left_before c.left_after c.reads_before c.reads_after ms x → inputs hs ≡ map Msg ms ++ End x ∷ []
          → ServesRecorded base (cause_of p.0 p.1) c t
      finish ms x heard all =
          let end : s.ended ≡ Some x = ended ∙ ap (last_end None) all ∙ last_end-last None ms x in
          let both : p ≡ taken x = some_same p (taken x) (sym is ∙ ap (option_map taken) end) in
          let one : p.0 ≡ x = ap (λ (k : EndCause × Bool). k.0) both in
          let two : p.1 ≡ closing = ap (λ (k : EndCause × Bool). k.1) both in
          let same : cause_of p.0 p.1 ≡ cause_of x closing = ap (λ k. cause_of k p.1) one ∙ ap (cause_of x) two in
          serves_so base c t heard.read (has_failed c) p.0 p.1 (one ∙ heard.ended)
          (served_whole (cause_of p.0 p.1) ms s x hs ordered heard did all over unfailed same)

      by_cut : (ms : List Message) (ending : List Inp) → sent ≡ map Msg ms ++ ending → IsCut ending → ⊥
      by_cut ms ending e (inl none) = no_end front.0 ms (sym (append-nil (map Msg ms)) ∙ ap (λ k. map Msg ms ++ k) (sym none) ∙ sym e ∙ front.1)
      by_cut ms ending e (inr lost) = chosen (front_of (inputs hs) front.0 (map Msg ms) (End end.NoMemory) (ap (λ k. map Msg ms ++ k) (sym lost) ∙ sym e ∙ front.1))
        where
          chosen : (inputs hs ≡ map Msg ms ++ End end.NoMemory ∷ []) ⊎ ((ws : List Inp) × (map Msg ms ≡ inputs hs ++ ws)) → ⊥
          chosen (inl all) = not_lost hs ms whole all
          chosen (inr (ws, f)) = no_end ws ms f

      by : IsPut c.left_before c.left_after c.reads_before c.reads_after sent → ServesRecorded base (cause_of p.0 p.1) c t
      by (IsPut.SentWhole ms x e heard) = chosen (front_of (inputs hs) front.0 (map Msg ms) (End x) (sym e ∙ front.1))
        where
          chosen : (inputs hs ≡ map Msg ms ++ End x ∷ []) ⊎ ((ws : List Inp) × (map Msg ms ≡ inputs hs ++ ws)) → ServesRecorded base (cause_of p.0 p.1) c t
          chosen (inl all) = finish ms x heard all
          chosen (inr (ws, f)) = absurd (no_end ws ms f)
      by (IsPut.SentFront ms ending e cut heard) = absurd (by_cut ms ending e cut)

  -- how a session ends, by how its coordinator stopped
  pub session_ends : {T : Type 0} (r : Result T ServeEnd) (s : State) (sent : List Inp) (hs : List Heard) (cause : Cause) → IsProject base
      → AreSent c.left_before c.left_after c.reads_before c.reads_after sent → IsFront hs sent
      → Turns r (opening base) s [] hs (before c t) (after c t) c.writes_before c.writes_after → OnOk r (IsOver s) → IsCauseBy r s cause
      → ServesRecorded base cause c t
  session_ends (Ok done) s sent hs cause ordered are front turns over is =
      let did = subst (λ k. Did (opening base) k s (before c t) (after c t)) (sym turns.1) turns.2.0 in
      let whole = subst AreWhole (sym turns.1) turns.2.1 in
      subst (λ k. ServesRecorded base k c t) (sym is.2) (served_over s sent hs is.0 ordered (put_so c.left_before c.left_after c.reads_before c.reads_after sent are) front did whole over turns.2.2 is.1)
  session_ends (Err WriteFault) s sent hs cause ordered are front turns over is =
      let did = subst (λ k. DidPart (opening base) k s (before c t) (after c t)) (sym turns.1) turns.2.0 in
      let whole = subst AreWhole (sym turns.1) turns.2.1 in
      subst (λ k. ServesRecorded base k c t) (sym is)
      (served_part hs s (begins_heard c.left_before c.left_after c.reads_before c.reads_after sent hs (put_so c.left_before c.left_after c.reads_before c.reads_after sent are) front whole) did turns.2.2)
  session_ends (Err NoMemory) s sent hs cause ordered are front turns over is =
      let did = subst (λ k. DidFront (opening base) k (before c t) (after c t)) (sym turns.1) turns.2.0 in
      subst (λ k. ServesRecorded base k c t) (sym is) (served_front hs sent (put_so c.left_before c.left_after c.reads_before c.reads_after sent are) front did turns.2.1)

-- ---- a session that doesn't begin

pub served_nothing : (base : Project) (left held : Option (List ℕ)) (reads writes : ℕ) (told : Option (List Step)) → ServesRecorded base cause.NoMemory (record {
  left_before = left;
  left_after = left;
  held_before = held;
  held_after = held;
  reads_before = reads;
  reads_after = reads;
  writes_before = writes;
  writes_after = writes;
}) (record { told_before = told; told_after = told })
served_nothing base left held reads writes told =
    let c : Course = record {
      left_before = left;
      left_after = left;
      held_before = held;
      held_after = held;
      reads_before = reads;
      reads_after = reads;
      writes_before = writes;
      writes_after = writes;
    } in
    let t : Tracing = record { told_before = told; told_after = told } in
    let none : HeardFront left left [] = record { read = []; more = messages_of []; gave = Consumes-nil left; same = refl } in
    served_front base c t [] [] (IsPut.SentFront [] [] refl (inl refl) none) ([], refl) (no_step (opening base) [] (before c t) (after c t) (omega arith) refl refl) refl
