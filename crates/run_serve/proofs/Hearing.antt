-- What the next bytes of the source make of what was heard before.
use Rattle.std.proofs.Common.{◌≡◌, inl, inr, ℕ, ◌+◌, nat_lt, Bool, true, false, ◌||◌, if◌then◌else◌, List, [], ◌∷◌, ◌++◌, length, map, None, Some, Result, Ok, Err, refl, sym, ap, ◌∙◌, subst, arith, append_assoc, append-nil}
use Rattle.std.specs.Prelude.{Option, unwrap_or}
use Rattle.std.proofs.lemmas.List.{map-append}
use Rattle.std.proofs.lemmas.Bool.Decides.{nat_tests}
use Rattle.std.proofs.KnownBytes.{Consumes-trans}
use Rattle.std.specs.Io.KnownBytes.{Consumes, IsAtEnd}
use Rattle.lsp_frame.specs.declared.first.First.TheVariants.{More}
use Rattle.lsp_frame.specs.First.{first_of}
use Rattle.lsp_frame.specs.Bodies.{Bodies, Ending, bodies_of, bodies_at, with_bodies, ends, place_after, IsReadTo}
use Rattle.lsp_frame.specs.Bodies.Ending.{Closed, Torn, Malformed, PastLimit}
use Rattle.lsp_frame.specs.Stream.{Stream, Reads, Breaks, Gives, IsNext}
use Rattle.lsp_frame.specs.declared.reading.Input.{Input}
use Rattle.lsp_frame.specs.declared.reading.Input.TheVariants.{Body, End}
use Rattle.lsp_frame.specs.declared.reading.FrameEnd.{FrameEnd}
use Rattle.lsp_frame.specs.declared.reading.FrameEnd.TheVariants.{Broken, TooLong, Fault, NoMemory}
use Rattle.lsp_frame.proofs.BodiesLemmas.{bodies_at-refused, bodies_at-long, bodies_at-torn}
use Rattle.lsp_frame.proofs.WrittenLemmas.{read_none, read_on}
use Rattle.lsp_msg.specs.Decoded.{decoded}
use Rattle.lsp_msg.specs.declared.msg.Msg.{Msg as Message}
use Rattle.lsp_msg.specs.declared.msg.Msg.TheVariants.{Exit}
use Rattle.run_watch.specs.declared.end_cause.EndCause.{EndCause}
use Rattle.run_watch.specs.declared.end_cause.EndCause.TheVariants as end
use Rattle.run_core.specs.Inputs.{up_to_exit, has_exit, end_after, GoesOn}
use Rattle.run_serve.specs.Hearing.{end_for, is_exit, ExitsLast, Heard, HeardAll, HeardFront}

-- ---- up to the first `exit`

up_to_exit-none : (ms more : List Message) → has_exit ms ≡ false → up_to_exit (ms ++ more) ≡ ms ++ up_to_exit more
up_to_exit-none [] more e = refl
up_to_exit-none (Exit ∷ ms) more e = absurd (let wrong : true ≡ false = e in cc)
up_to_exit-none (m ∷ ms) more e = ap (λ k. m ∷ k) (up_to_exit-none ms more e)

has_exit-append : (ms more : List Message) → has_exit (ms ++ more) ≡ (has_exit ms || has_exit more)
has_exit-append [] more = refl
has_exit-append (Exit ∷ ms) more = refl
has_exit-append (m ∷ ms) more = has_exit-append ms more

none_and : (ms more : List Message) → has_exit ms ≡ false → has_exit (ms ++ more) ≡ has_exit more
none_and ms more none = has_exit-append ms more ∙ ap (λ b. b || has_exit more) none

-- where `exit` is the last message nothing after it counts
up_to_exit-last : (ms more : List Message) → ExitsLast true ms → up_to_exit (ms ++ more) ≡ ms
up_to_exit-last ms more (front, is, none) =
    ap (λ k. up_to_exit (k ++ more)) is ∙ ap up_to_exit (append_assoc front (Exit ∷ []) more) ∙ up_to_exit-none front (Exit ∷ more) none ∙ sym is

has_exit-last : (ms more : List Message) → ExitsLast true ms → has_exit (ms ++ more) ≡ true
has_exit-last ms more (front, is, none) =
    ap (λ k. has_exit (k ++ more)) is ∙ ap has_exit (append_assoc front (Exit ∷ []) more) ∙ none_and front (Exit ∷ more) none

ExitsLast-push : (ms : List Message) (m : Message) → has_exit ms ≡ false → ExitsLast (is_exit m) (ms ++ m ∷ [])
ExitsLast-push ms Exit none = (ms, refl, none)
ExitsLast-push ms m none = none_and ms (m ∷ []) none

-- the messages that were heard are those of all bytes, or begin them
begin_with : (exited : Bool) (ms more : List Message) → ExitsLast exited ms → (rest : List Message) × (up_to_exit (ms ++ more) ≡ ms ++ rest)
begin_with true ms more last = ([], up_to_exit-last ms more last ∙ sym (append-nil ms))
begin_with false ms more none = (up_to_exit more, up_to_exit-none ms more none)

some_same : {X : Type 0} {x y : X} → Some x ≡ Some y → x ≡ y
some_same {X} {x} same = ap (λ o. unwrap_or o x) same

-- ---- what was heard so far

pub heard_none : (left : Option (List ℕ)) (faults : ℕ) (stream : Stream) → stream.pending ≡ [] → stream.at ≡ 0 → stream.ended ≡ None
    → Consumes left left [] → Heard left left faults faults stream false []
heard_none left faults stream pending at going none = record {
  read = [];
  bodies = [];
  gave = none;
  there = subst (λ p. IsReadTo [] [] p stream.at) (sym pending) (subst (λ a. IsReadTo [] [] [] a) (sym at) read_none);
  going = going;
  same = refl;
  exits = refl;
  unfailed = refl;
}

-- the bodies of bytes that were read and of more
listed_more : (bodies : List (List ℕ)) (all : List ℕ) (later : Bodies) → bodies_of all ≡ with_bodies bodies later
    → map decoded (bodies_of all).list ≡ map decoded bodies ++ map decoded later.list
listed_more bodies all later is = ap (λ b. map decoded b.list) is ∙ map-append decoded bodies later.list

module _ (left_before left left' : Option (List ℕ)) (faults_before faults faults' : ℕ) (old new : Stream) (exited : Bool) (ms : List Message)
    (heard : Heard left_before left faults_before faults old exited ms) where
  -- with more bytes
  pub more_heard : (more : List ℕ) → Consumes left left' more → HeardFront left_before left' ms
  more_heard more gave =
      let later = bodies_at old.at (old.pending ++ more) in
      let front = begin_with exited ms (map decoded later.list) heard.exits in
      record {
        read = heard.read ++ more;
        more = front.0;
        gave = Consumes-trans left_before left left' heard.read more heard.gave gave;
        same = ap up_to_exit (listed_more heard.bodies (heard.read ++ more) later (heard.there more) ∙ ap (λ k. k ++ map decoded later.list) (sym heard.same)) ∙ front.1;
      }

  -- a body more
  body_heard : (all body : List ℕ) → Reads left left' old.pending all → exited ≡ false → Gives all old.at new body → faults' ≡ faults
      → Heard left_before left' faults_before faults' new (is_exit (decoded body)) (ms ++ decoded body ∷ [])
  body_heard all body reads going gives same =
      let more = reads.0 in
      let there : Gives (old.pending ++ more) old.at new body = subst (λ l. Gives l old.at new body) reads.2 gives in
      record {
        read = heard.read ++ more;
        bodies = heard.bodies ++ (body ∷ []);
        gave = Consumes-trans left_before left left' heard.read more heard.gave reads.1;
        there = read_on heard.read heard.bodies old.pending old.at more body new heard.there there;
        going = ap (λ s. s.ended) there.4;
        same = ap (λ k. k ++ decoded body ∷ []) heard.same ∙ sym (map-append decoded heard.bodies (body ∷ []));
        exits = ExitsLast-push ms (decoded body) (subst (λ b. ExitsLast b ms) going heard.exits);
        unfailed = same ∙ heard.unfailed;
      }

  -- no body more: the bytes end so
  all_heard : (all : List ℕ) (ending : Ending) (e : EndCause) → Reads left left' old.pending all → exited ≡ false → bodies_at old.at all ≡ ends ending
      → e ≡ end_after ending (nat_lt faults_before faults') → (GoesOn ending → faults' ≡ faults_before → IsAtEnd left')
      → HeardAll left_before left' faults_before faults' ms e
  all_heard all ending e reads going is_end is to_end =
      let more = reads.0 in
      let whole : bodies_of (heard.read ++ more) ≡ with_bodies heard.bodies (ends ending) =
      heard.there more ∙ ap (λ l. with_bodies heard.bodies (bodies_at old.at l)) (sym reads.2) ∙ ap (with_bodies heard.bodies) is_end in
      let none : has_exit ms ≡ false = subst (λ b. ExitsLast b ms) going heard.exits in
      let listed : map decoded (bodies_of (heard.read ++ more)).list ≡ ms ++ [] =
      listed_more heard.bodies (heard.read ++ more) (ends ending) whole ∙ ap (λ k. k ++ []) (sym heard.same) in
      let no_exit : has_exit (map decoded (bodies_of (heard.read ++ more)).list) ≡ false = ap has_exit listed ∙ none_and ms [] none in
      let same_end : (bodies_of (heard.read ++ more)).end ≡ ending = ap (λ b. b.end) whole in
      let failed = nat_lt faults_before faults' in
      record {
        read = heard.read ++ more;
        gave = Consumes-trans left_before left left' heard.read more heard.gave reads.1;
        same = ap up_to_exit listed ∙ up_to_exit-none ms [] none ∙ append-nil ms;
        ended = is ∙ ap (λ k. end_after k failed) (sym same_end) ∙ ap (λ b. if b then end.Exit else end_after (bodies_of (heard.read ++ more)).end failed) (sym no_exit);
        to_end = λ _ goes same. to_end (subst GoesOn same_end goes) same;
      }

  -- `exit` was heard
  pub exit_heard : exited ≡ true → left' ≡ left → HeardAll left_before left' faults_before faults' ms end.Exit
  exit_heard last same_left =
      let exits : ExitsLast true ms = subst (λ b. ExitsLast b ms) last heard.exits in
      let later = bodies_at old.at (old.pending ++ []) in
      let whole : bodies_of heard.read ≡ with_bodies heard.bodies later = ap bodies_of (sym (append-nil heard.read)) ∙ heard.there [] in
      let listed : map decoded (bodies_of heard.read).list ≡ ms ++ map decoded later.list =
      listed_more heard.bodies heard.read later whole ∙ ap (λ k. k ++ map decoded later.list) (sym heard.same) in
      let an_exit : has_exit (map decoded (bodies_of heard.read).list) ≡ true = ap has_exit listed ∙ has_exit-last ms (map decoded later.list) exits in
      record {
        read = heard.read;
        gave = subst (λ l. Consumes left_before l heard.read) (sym same_left) heard.gave;
        same = ap up_to_exit listed ∙ up_to_exit-last ms (map decoded later.list) exits;
        ended = ap (λ b. if b then end.Exit else end_after (bodies_of heard.read).end (nat_lt faults_before faults')) (sym an_exit);
        to_end = λ none goes same. absurd (let wrong : true ≡ false = sym an_exit ∙ none in cc);
      }

  -- ---- what a call on the frames answered

  not_failed : faults' ≡ faults → nat_lt faults_before faults' ≡ false
  not_failed same = let stays : faults ≡ faults_before = heard.unfailed in grind (arith, nat_tests)

  has_failed : faults' ≡ faults + 1 → nat_lt faults_before faults' ≡ true
  has_failed more = let stays : faults ≡ faults_before = heard.unfailed in grind (arith, nat_tests)

  pub next_body : (r : Result Input FrameEnd) (body : _) → IsNext old new left left' faults faults' r → r ≡ Ok (Body body) → exited ≡ false
      → Heard left_before left' faults_before faults' new (is_exit (decoded body.items)) (ms ++ decoded body.items ∷ [])
  next_body r body next e going =
      let is = subst (IsNext old new left left' faults faults') e next in
      body_heard is.0 body.items is.1 going is.2.0 is.2.1

  pub next_end : (r : Result Input FrameEnd) → IsNext old new left left' faults faults' r → r ≡ Ok End → exited ≡ false
      → HeardAll left_before left' faults_before faults' ms end.Closed
  next_end r next e going =
      let is = subst (IsNext old new left left' faults faults') e next in
      all_heard is.0 Closed end.Closed is.1 going (ap (bodies_at old.at) is.2.0)
      (ap (λ b. if b then end.Fault else end.Closed) (sym (not_failed is.2.3))) (λ _ _. is.2.1)

  broken_heard : (all : List ℕ) (place : ℕ) → Reads left left' old.pending all → exited ≡ false → faults' ≡ faults → Breaks all old.at place left'
      → HeardAll left_before left' faults_before faults' ms (end.Broken place)
  broken_heard all place reads going same (inl (size, first, at)) =
      all_heard all (Malformed place) (end.Broken place) reads going
      (bodies_at-refused old.at all size first ∙ ap (λ p. ends (Malformed p)) (sym at)) refl (λ goes _. absurd goes)
  broken_heard all place reads going same (inr (first, some, over, at)) =
      all_heard all (Torn place) (end.Broken place) reads going
      (bodies_at-torn old.at all first some ∙ ap (λ p. ends (Torn p)) (sym at))
      (ap (λ b. if b then end.Fault else end.Broken place) (sym (not_failed same))) (λ _ _. over)

  next_broken : (place : ℕ) → IsNext old new left left' faults faults' (Err (Broken place)) → exited ≡ false
      → HeardAll left_before left' faults_before faults' ms (end.Broken place)
  next_broken place is going = broken_heard is.0 place is.1 going is.2.2 is.2.0

  next_long : (size : ℕ) → IsNext old new left left' faults faults' (Err (TooLong size)) → exited ≡ false
      → HeardAll left_before left' faults_before faults' ms (end.TooLong size)
  next_long size is going =
      all_heard is.0 (PastLimit size) (end.TooLong size) is.1 going (bodies_at-long old.at is.0 size is.2.0) refl (λ goes _. absurd goes)

  more_faults : faults' ≡ faults + 1 → faults' ≡ faults_before → ⊥
  more_faults more same = let stays : faults ≡ faults_before = heard.unfailed in absurd (omega (arith, more, same))

  fault_heard : (all : List ℕ) → Reads left left' old.pending all → exited ≡ false → first_of all ≡ More → faults' ≡ faults + 1
      → HeardAll left_before left' faults_before faults' ms end.Fault
  fault_heard [] reads going first more =
      all_heard [] Closed end.Fault reads going refl (ap (λ b. if b then end.Fault else end.Closed) (sym (has_failed more)))
      (λ _ same. absurd (more_faults more same))
  fault_heard (b ∷ rest) reads going first more =
      let place = place_after old.at (length (b ∷ rest)) in
      all_heard (b ∷ rest) (Torn place) end.Fault reads going (bodies_at-torn old.at (b ∷ rest) first (omega arith))
      (ap (λ b. if b then end.Fault else end.Broken place) (sym (has_failed more))) (λ _ same. absurd (more_faults more same))

  next_fault : IsNext old new left left' faults faults' (Err Fault) → exited ≡ false → HeardAll left_before left' faults_before faults' ms end.Fault
  next_fault is going = fault_heard is.0 is.1 going is.2.0 is.2.2

  by_refusal : (x : FrameEnd) (cause : EndCause) → IsNext old new left left' faults faults' (Err x) → end_for x ≡ Some cause → exited ≡ false
      → HeardAll left_before left' faults_before faults' ms cause
  by_refusal (Broken place) cause is e going = subst (HeardAll left_before left' faults_before faults' ms) (some_same e) (next_broken place is going)
  by_refusal (TooLong size) cause is e going = subst (HeardAll left_before left' faults_before faults' ms) (some_same e) (next_long size is going)
  by_refusal Fault cause is e going = subst (HeardAll left_before left' faults_before faults' ms) (some_same e) (next_fault is going)
  by_refusal NoMemory cause is e going = absurd (let wrong : None ≡ Some cause = e in cc)

  pub next_refused : (r : Result Input FrameEnd) (x : FrameEnd) (cause : EndCause) → IsNext old new left left' faults faults' r → r ≡ Err x → end_for x ≡ Some cause → exited ≡ false
      → HeardAll left_before left' faults_before faults' ms cause
  next_refused r x cause next e by going = by_refusal x cause (subst (IsNext old new left left' faults faults') e next) by going

  -- the call read more, and what it answers is lost
  pub next_lost : (r : Result Input FrameEnd) → IsNext old new left left' faults faults' r → HeardFront left_before left' ms
  next_lost r is = more_heard is.1.0 is.1.1
