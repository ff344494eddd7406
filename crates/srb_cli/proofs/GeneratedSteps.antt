-- The generated session: bytes after an `exit` count for nothing, and what its steps come to.
use Rattle.std.proofs.Common.{◌≡◌, ℕ, ◌+◌, ◌-◌, ◌≤◌, zero, suc, Bool, true, false, if◌then◌else◌, List, [], ◌∷◌, ◌++◌, length, map, take, drop, None, Some, refl, sym, ap, ◌∙◌, subst, arith, append-nil, append_assoc}
use Rattle.std.specs.Prelude.{Option, unwrap_or, IsSome}
use Rattle.std.specs.Io.KnownBytes.{Appends, Consumes}
use Rattle.std.specs.List.{slice_range}
use Rattle.std.proofs.lemmas.List.{append_cancel_right, map-append, take-append-le, drop-append-le, length-drop}
use Rattle.srb_io.specs.Counts.{HasRisen}
use Rattle.srb_io.specs.Told.{AppendsPart}
use Rattle.srb_terms.specs.declared.cause.Cause.{Cause}
use Rattle.srb_terms.specs.declared.cause.Cause.TheVariants.{Done}
use Rattle.lsp_frame.specs.declared.first.First.{First}
use Rattle.lsp_frame.specs.declared.first.First.TheVariants.{More, Refused, Oversized, Frame}
use Rattle.lsp_frame.specs.First.{first_of}
use Rattle.lsp_frame.specs.Bodies.{Bodies, Ending, place_after, bodies_after, bodies_of, first_bodies}
use Rattle.lsp_frame.specs.Bodies.Ending.{Closed, Torn, Malformed, PastLimit}
use Rattle.lsp_frame.proofs.FirstLemmas.{first_of-append, first_of-frame}
use Rattle.lsp_msg.specs.Decoded.{decoded}
use Rattle.lsp_msg.specs.declared.msg.Msg.{Msg as Message}
use Rattle.lsp_msg.specs.declared.msg.Msg.TheVariants.{Exit}
use Rattle.lsp_docs.specs.Projects.{Project, after_all}
use Rattle.run_watch.specs.Told.{with_steps}
use Rattle.run_watch.specs.declared.end_cause.EndCause.{EndCause}
use Rattle.run_watch.specs.declared.end_cause.EndCause.TheVariants as end
use Rattle.run_watch.specs.declared.inp.Inp.{Inp}
use Rattle.run_watch.specs.declared.inp.Inp.TheVariants.{Msg, End}
use Rattle.run_watch.specs.declared.step.Step.{Step}
use Rattle.run_watch.specs.declared.step.Step.TheVariants.{Take, Look, Build, Work, Dropped, Idle}
use Rattle.run_core.specs.Cores.{checked_language}
use Rattle.run_core.specs.Inputs.{up_to_exit, has_exit, messages_of, end_of, end_after, inputs_of}
use Rattle.run_core.specs.Histories.{edits_of, history}
use Rattle.run_core.specs.Runs.{Run, Over, messages_in}
use Rattle.run_core.proofs.KeptFacts.{checked_is_language}
use Rattle.run_serve.specs.Causes.{cause_of}
use Rattle.run_serve.specs.Course.{Course}
use Rattle.run_serve.specs.Recorded.{Tracing, ServesRecorded, RecordsWhole, inputs_in}
use Rattle.run_serve.specs.Served.{is_shut, has_failed, ServesWhole}
use Rattle.srb_gen.specs.Generated.{generated_project, generated_session, summary_of}
use Rattle.srb_gen.specs.Tallies.{edits_in, errors_in}
use Rattle.srb_gen.proofs.FreshLists.{errors_are_fresh}
use Rattle.srb_gen.proofs.Projects.{ordered_generated}
use Rattle.srb_gen.proofs.Shut.{session_is_shut}
use Rattle.srb_gen.proofs.Taken.{edits_are_taken, shut_is_begun}
use Rattle.srb_cli.specs.Generating.{IsGenerated, IsGivenBy, generated_summary, errors_of_all}

-- ---- the bodies of more bytes begin with those of the first

abbrev through : First → ℕ → ℕ → List ℕ → Bodies
through f at b rest = first_bodies f at (b ∷ rest) (λ to. bodies_after (to - 1) (place_after at to) rest)

slice_range-append : (xs ys : List ℕ) (from to : ℕ) → from ≤ to → to ≤ length xs → slice_range (xs ++ ys) from to ≡ slice_range xs from to
slice_range-append xs ys from to ordered within =
    let begins : from ≤ length xs = omega arith in
    let fits : to - from ≤ length (drop from xs) = omega (arith, length-drop from xs) in
    ap (take (to - from)) (drop-append-le from xs ys begins) ∙ take-append-le (to - from) (drop from xs) ys fits

listed_more : (skip at : ℕ) (bytes more : List ℕ) → (rest : List (List ℕ)) × ((bodies_after skip at (bytes ++ more)).list ≡ (bodies_after skip at bytes).list ++ rest)
listed_more zero at [] more = ((bodies_after zero at more).list, refl)
listed_more (suc skip) at [] more = ((bodies_after (suc skip) at more).list, refl)
listed_more (suc skip) at (b ∷ bytes) more = listed_more skip at bytes more
listed_more zero at (b ∷ bytes) more = by (first_of (b ∷ bytes)) refl (λ skip at. listed_more skip at bytes more)
  where
    by : (f : First) → first_of (b ∷ bytes) ≡ f
        → ((skip at : ℕ) → (rest : List (List ℕ)) × ((bodies_after skip at (bytes ++ more)).list ≡ (bodies_after skip at bytes).list ++ rest))
        → (rest : List (List ℕ)) × ((bodies_after zero at ((b ∷ bytes) ++ more)).list ≡ (bodies_after zero at (b ∷ bytes)).list ++ rest)
    by More e later =
        let all = (bodies_after zero at ((b ∷ bytes) ++ more)).list in
        (all, ap (λ f. (through f at b bytes).list ++ all) (sym e))
    by (Refused size) e later =
        let decided : first_of (b ∷ bytes) ≡ More → ⊥ = λ d. let wrong : Refused size ≡ More = sym e ∙ d in cc in
        let same : first_of ((b ∷ bytes) ++ more) ≡ Refused size = first_of-append (b ∷ bytes) more decided ∙ e in
        ([], ap (λ f. (through f at b (bytes ++ more)).list) same ∙ sym (append-nil (through (first_of (b ∷ bytes)) at b bytes).list ∙ ap (λ f. (through f at b bytes).list) e))
    by (Oversized n) e later =
        let decided : first_of (b ∷ bytes) ≡ More → ⊥ = λ d. let wrong : Oversized n ≡ More = sym e ∙ d in cc in
        let same : first_of ((b ∷ bytes) ++ more) ≡ Oversized n = first_of-append (b ∷ bytes) more decided ∙ e in
        ([], ap (λ f. (through f at b (bytes ++ more)).list) same ∙ sym (append-nil (through (first_of (b ∷ bytes)) at b bytes).list ∙ ap (λ f. (through f at b bytes).list) e))
    by (Frame from to) e later =
        let decided : first_of (b ∷ bytes) ≡ More → ⊥ = λ d. let wrong : Frame from to ≡ More = sym e ∙ d in cc in
        let same : first_of ((b ∷ bytes) ++ more) ≡ Frame from to = first_of-append (b ∷ bytes) more decided ∙ e in
        let stands = first_of-frame (b ∷ bytes) from to e in
        let body : slice_range ((b ∷ bytes) ++ more) from to ≡ slice_range (b ∷ bytes) from to = slice_range-append (b ∷ bytes) more from to stands.1 stands.2 in
        let next = later (to - 1) (place_after at to) in (
          next.0,
          ap (λ f. (through f at b (bytes ++ more)).list) same
              ∙ ap (λ k. k ∷ (bodies_after (to - 1) (place_after at to) (bytes ++ more)).list) body
              ∙ ap (λ k. slice_range (b ∷ bytes) from to ∷ k) next.1
              ∙ sym (ap (λ f. (through f at b bytes).list ++ next.0) e),
        )

up_to_exit-has : (ms more : List Message) → has_exit ms ≡ true → up_to_exit (ms ++ more) ≡ up_to_exit ms
up_to_exit-has [] more e = absurd (let wrong : false ≡ true = e in cc)
up_to_exit-has (Exit ∷ ms) more e = refl
up_to_exit-has (m ∷ ms) more e = ap (λ k. m ∷ k) (up_to_exit-has ms more e)

-- bytes after an `exit` change no message
messages_stay : (read more : List ℕ) → has_exit (map decoded (bodies_of read).list) ≡ true → messages_of (read ++ more) ≡ messages_of read
messages_stay read more exits =
    let longer = listed_more 0 0 read more in
    ap (λ l. up_to_exit (map decoded l)) longer.1 ∙ ap up_to_exit (map-append decoded (bodies_of read).list longer.0)
    ∙ up_to_exit-has (map decoded (bodies_of read).list) (map decoded longer.0) exits

-- ---- a session that is done

not_exit : (x : Ending) (f : Bool) (accepted : Bool) → Done ≡ cause_of (end_after x f) accepted → ⊥
not_exit Closed true accepted e = cc
not_exit Closed false accepted e = cc
not_exit (Torn at) true accepted e = cc
not_exit (Torn at) false accepted e = cc
not_exit (Malformed at) f accepted e = cc
not_exit (PastLimit size) f accepted e = cc

exits : (read : List ℕ) (f accepted : Bool) → Done ≡ cause_of (end_of read f) accepted → has_exit (map decoded (bodies_of read).list) ≡ true
exits read f accepted e = by (has_exit (map decoded (bodies_of read).list)) refl
  where
    by : (b : Bool) → has_exit (map decoded (bodies_of read).list) ≡ b → b ≡ true
    by true is = refl
    by false is =
        absurd (not_exit (bodies_of read).end f accepted
        (e ∙ ap (λ b. cause_of (if b then end.Exit else end_after (bodies_of read).end f) accepted) is))

same_read : (all : List ℕ) (after : Option (List ℕ)) (a b : List ℕ) → Consumes (Some all) after a → Consumes (Some all) after b → a ≡ b
same_read all None a b p q = absurd p
same_read all (Some left) a b p q = append_cancel_right a b left (sym p ∙ q)

whole_read : (all : List ℕ) (after : Option (List ℕ)) (read : List ℕ) → Consumes (Some all) after read → (left : List ℕ) × (all ≡ read ++ left)
whole_read all None read p = absurd p
whole_read all (Some left) read p = (left, p)

some_same : (x y : List Step) → Some x ≡ Some y → x ≡ y
some_same x y e = ap (λ o. unwrap_or o x) e

pub steps_are : (n : ℕ) (base : Project) (bytes : List ℕ) (c : Course) (t : Tracing) (steps : List Step) → IsGivenBy n base bytes → c.left_before ≡ Some bytes
    → t.told_before ≡ Some [] → t.told_after ≡ Some steps → ServesRecorded base Done c t → IsGenerated n steps
steps_are n base bytes c t steps given left none told served =
    let s : ServesWhole base Done c = served.0 in
    let r : RecordsWhole base c t = served.1 in
    let f = has_failed c in
    let reads = subst (λ o. Consumes o c.left_after r.read) left r.reads in
    let same : s.read ≡ r.read = same_read bytes c.left_after s.read r.read (subst (λ o. Consumes o c.left_after s.read) left s.reads) reads in
    let exit = subst (λ k. has_exit (map decoded (bodies_of k).list) ≡ true) same (exits s.read f (is_shut base (messages_of s.read)) s.ended) in
    let whole = whole_read bytes c.left_after r.read reads in
    let messages : messages_of r.read ≡ messages_of (generated_session n) =
    sym (messages_stay r.read whole.0 exit) ∙ ap messages_of (sym whole.1) ∙ ap messages_of given.written in
    let ends : end_of r.read f ≡ end_of (generated_session n) false =
    ap (λ b. if b then end.Exit else end_after (bodies_of r.read).end f) exit ∙ sym (ap (λ k. end_of k false) (sym given.written) ∙ given.ended false) in
    let all : steps ≡ r.steps = some_same steps r.steps (sym told ∙ r.gains ∙ ap (λ o. with_steps o r.steps) none) in
    subst (IsGenerated n) (sym all) (record {
      run = subst (λ p. Run checked_language p r.steps) given.project r.run;
      over = subst (λ p. Over checked_language p r.steps) given.project r.over;
      messages = ap messages_of (sym given.written) ∙ given.messages;
      took = r.took ∙ ap (λ ms. map Msg ms ++ End (end_of r.read f) ∷ []) messages ∙ ap (λ e. map Msg (messages_of (generated_session n)) ++ End e ∷ []) ends;
    })

-- the same of a session with a cause that is known to be that
pub steps_of_done : (c : Course) (t : Tracing) (why : Cause) → why ≡ Done → (n : ℕ) (base : Project) (bytes : List ℕ) (steps : List Step)
    → ServesRecorded base why c t → c.left_before ≡ Some bytes → t.told_before ≡ Some [] → t.told_after ≡ Some steps → IsGivenBy n base bytes
    → IsGenerated n steps
steps_of_done c t why is n base bytes steps served left none told given =
    steps_are n base bytes c t steps given left none told (subst (λ k. ServesRecorded base k c t) is served)

-- ---- what its steps come to

abbrev said_in : Inp → List Message
said_in (Msg m) = m ∷ []
said_in (End e) = []

abbrev said_among : List Inp → List Message
said_among [] = []
said_among (i ∷ is) = said_in i ++ said_among is

messages_among : (steps : List Step) → messages_in steps ≡ said_among (inputs_in steps)
messages_among [] = refl
messages_among (Take (Msg m) ∷ xs) = ap (λ k. m ∷ k) (messages_among xs)
messages_among (Take (End e) ∷ xs) = messages_among xs
messages_among (Look ∷ xs) = messages_among xs
messages_among (Build ∷ xs) = messages_among xs
messages_among (Work f n list b ∷ xs) = messages_among xs
messages_among (Dropped f ∷ xs) = messages_among xs
messages_among (Idle ∷ xs) = messages_among xs

said_all : (ms : List Message) (e : EndCause) → said_among (map Msg ms ++ End e ∷ []) ≡ ms
said_all [] e = refl
said_all (m ∷ ms) e = ap (λ k. m ∷ k) (said_all ms e)

few_enough : (n : ℕ) → n ≤ 1000 → n ≤ 10000
few_enough n few = omega arith

pub summary_is : (n : ℕ) (steps : List Step) (edits errors : ℕ) → n ≤ 1000 → IsGenerated n steps → edits ≡ edits_in steps → errors ≡ errors_in steps
    → summary_of n edits errors ≡ generated_summary n
summary_is n steps edits errors few is edited wrong =
    let base = generated_project n in
    let msgs = messages_of (generated_session n) in
    let same : messages_in steps ≡ msgs = messages_among steps ∙ ap said_among is.took ∙ said_all msgs (end_of (generated_session n) false) in
    let shut : IsSome (history base (messages_in steps)).shutdown = subst (λ ms. IsSome (history base ms).shutdown) (sym (same ∙ is.messages)) (session_is_shut base n) in
    let count = edited ∙ edits_are_taken checked_language base steps is.run is.over ∙ ap (λ ms. length (edits_of base ms)) same in
    let sum = wrong ∙ errors_are_fresh checked_language checked_is_language base (ordered_generated n (few_enough n few)) steps is.run is.over (shut_is_begun base (messages_in steps) shut)
    ∙ ap (λ ms. errors_of_all (after_all base (edits_of base ms))) same in
    ap (λ k. summary_of n k errors) count ∙ ap (λ k. summary_of n (length (edits_of base msgs)) k) sum

pub summary_written : (n : ℕ) (steps : List Step) (told edits errors : ℕ) (bytes : List ℕ) → n ≤ 1000 → IsGenerated n steps → edits ≡ edits_in steps → errors ≡ errors_in steps
    → told ≡ n → bytes ≡ summary_of told edits errors → bytes ≡ generated_summary n
summary_written n steps told edits errors bytes few is edited wrong same wrote =
    wrote ∙ ap (λ k. summary_of k edits errors) same ∙ summary_is n steps edits errors few is edited wrong

-- ---- what was written is the summary

pub writes_summary : (old new : Option (List ℕ)) (n : ℕ) (piece bytes : List ℕ) → piece ≡ bytes → bytes ≡ generated_summary n → Appends old new piece
    → Appends old new (generated_summary n)
writes_summary old new n piece bytes same is wrote = subst (Appends old new) (same ∙ is) wrote

pub writes_summary_part : (old new : Option (List ℕ)) (n : ℕ) (piece bytes : List ℕ) → piece ≡ bytes → bytes ≡ generated_summary n → AppendsPart old new piece
    → AppendsPart old new (generated_summary n)
writes_summary_part old new n piece bytes same is wrote = subst (AppendsPart old new) (same ∙ is) wrote

pub one_more : (old new : ℕ) → new ≡ old + 1 → HasRisen old new
one_more old new e = omega arith
