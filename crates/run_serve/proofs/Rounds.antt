-- What the coordinator's calls do: an input is taken, the symbol table built, a file worked on, a reply written.
use Rattle.std.proofs.Common.{◌≡◌, ℕ, ◌+◌, ◌<◌, Bool, true, false, not, ◌&&◌, ◌||◌, List, [], ◌∷◌, ◌++◌, take, length, None, Some, Result, Ok, Err, OnOk, inl, inr, refl, sym, ap, ◌∙◌, subst, arith, append_assoc, append-nil}
use Rattle.std.specs.Prelude.{Option, MatchResult, IfErr, IfNone, is_some, is_none}
use Rattle.std.specs.Io.KnownBytes.{Appends}
use Rattle.std.proofs.KnownBytes.{Appends-nil, Keeps-refl}
use Rattle.lsp_frame.specs.Written.{frame, WritesShort}
use Rattle.lsp_frame.specs.declared.writing.WriteEnd.{WriteEnd}
use Rattle.lsp_frame.specs.declared.writing.WriteEnd.TheVariants as write_end
use Rattle.lsp_msg.specs.Written.{body_of}
use Rattle.lsp_msg.specs.declared.out.Out.{Out}
use Rattle.srb_check.specs.Found.{IsFoundIn}
use Rattle.srb_check.specs.Jobs.{Known}
use Rattle.lsp_docs.specs.Paths.{Path}
use Rattle.lsp_docs.specs.Uris.{is_empty}
use Rattle.run_watch.specs.declared.inp.Inp.{Inp}
use Rattle.run_watch.specs.Told.{with_steps}
use Rattle.run_watch.specs.declared.step.Step.{Step}
use Rattle.run_watch.specs.declared.step.Step.TheVariants.{Take, Look, Build, Work, Idle}
use Rattle.run_watch.specs.declared.step.Step.TheVariants as step
use Rattle.run_queues.specs.declared.item.Item.{Item}
use Rattle.run_queues.specs.declared.heard.Heard.{Heard}
use Rattle.run_queues.specs.declared.heard.Heard.TheVariants.{Took, Empty}
use Rattle.run_queues.specs.Deliveries.{heard_of}
use Rattle.run_queues.specs.Hearings.{Hearing, Hears}
use Rattle.run_core.specs.Machine.{State, looked, is_at_rest}
use Rattle.run_core.specs.Runs.{IsOver}
use Rattle.run_core.specs.Cores.{Account, Makes, has_own, is_idle, Lands, LandsAt}
use Rattle.run_core.specs.declared.landed.Landed.{Landed}
use Rattle.run_core.specs.declared.landed.Landed.TheVariants.{Shown, Quiet, Dropped, Later}
use Rattle.run_serve.specs.declared.serve_end.ServeEnd.{ServeEnd}
use Rattle.run_serve.specs.declared.serve_end.ServeEnd.TheVariants.{WriteFault, NoMemory}
use Rattle.run_serve.specs.Deeds.{Kept, given_back, hearing_in, stop_by, is_lost, AreWhole, Did, DidFront, IsDone, Works, Turns, GainsOne, GainsSome, Goes, Says, Tells, TellsLanded}
use Rattle.run_serve.specs.Leading.{IsWaiting}
use Rattle.run_serve.proofs.Deeds.{did_nothing, did_step, gains_then, did_then, AreWhole-append, goes_quietly, works_then, works_saying, works_telling, front_step, no_step}

-- ---- a message that is written

pub said_whole : {T : Type 0} (done : T) (out : Out) (bytes : List ℕ) (h h' : Option (List ℕ)) (f f' : ℕ) → bytes ≡ frame (body_of out)
    → Appends h h' bytes → f' ≡ f → Says (Ok done) (Some out) h h' f f'
said_whole done out bytes h h' f f' is whole same = (subst (Appends h h') (is ∙ sym (append-nil (frame (body_of out)))) whole, same)

pub said_short : (T : Type 0) (e : WriteEnd) (out : Out) (bytes : List ℕ) (h h' : Option (List ℕ)) (f f' : ℕ) → bytes ≡ frame (body_of out)
    → WritesShort e bytes h h' f f' → Says {T = T} (Err (stop_by e)) (Some out) h h' f f'
said_short T write_end.Fault out bytes h h' f f' is short =
    let part = short.0 in
    ((out, part.0, refl, subst (λ b. part.0 < length b) is part.1, subst (λ b. Appends h h' (take part.0 b)) is part.2), more f f' short.1)
  where
    more : (f f' : ℕ) → f' ≡ f + 1 → f < f'
    more f f' e = omega (arith, e)
said_short T write_end.NoMemory out bytes h h' f f' is short = short

-- ---- an input that is taken

pub takes : {T : Type 0} (r : Result T ServeEnd) (s new : State) (inp : Inp) (out : Option Out) (h h' : Kept) (f f' : ℕ)
    → Makes s new (Take inp) out → is_lost (Took inp) ≡ false → h'.told ≡ with_steps h.told (Take inp ∷ []) → Says r out h.held h'.held f f'
    → Works r s (Took inp ∷ []) new h h' f f'
takes r s new inp out h h' f f' makes kept told says =
    works_saying r s new (Take inp) out h h' f f' makes.permitted makes.made makes.answered (kept, tt) told says

-- the trace took note of an input that is the last because memory ran out
pub last_taken : (s : State) (inp : Inp) (held : Option (List ℕ)) (t t' : Option (List Step)) → is_some s.ended ≡ false → t' ≡ with_steps t (Take inp ∷ [])
    → DidFront s (Took inp ∷ []) (record { held = held; told = t }) (record { held = held; told = t' })
last_taken s inp held t t' unended told =
    front_step s (Take inp) (record { held = held; told = t }) (record { held = held; told = t' }) unended told (Keeps-refl held)

-- ---- a look

pub looks : {T : Type 0} (done : T) (s new : State) (held : Option (List ℕ)) (t t' : Option (List Step)) (f : ℕ) → Makes s new Look None → t' ≡ with_steps t (Look ∷ [])
    → Works (Ok done) s (Empty ∷ []) new (record { held = held; told = t }) (record { held = held; told = t' }) f f
looks done s new held t t' f makes told = (
  did_step s new Look None (record { held = held; told = t }) (record { held = held; told = t' }) makes.permitted makes.made makes.answered told (Appends-nil held),
  (refl, tt),
  refl,
)

-- a trace that refused the step of a look
pub unheard : (s : State) (h h' : Kept) (p q : Hearing) (f : ℕ) → p.kept ≡ None → IfNone p.kept ((found : Option Inp) × Hears p q found found)
    → h'.told ≡ h.told → h'.held ≡ h.held → (heard : List Heard) × (q.heard ≡ p.heard ++ heard) × (DidFront s heard h h' × (f ≡ f))
unheard s h h' p q f none hears told held =
    let k = subst (λ (o : Option Inp). IfNone o ((found : Option Inp) × Hears p q found found)) none hears in
    (heard_of k.0 ∷ [], ap (λ (t : Hearing). t.heard) k.1.0, (no_step s (heard_of k.0 ∷ []) h h' (omega arith) told held, refl))

-- ---- a build

pub builds : {T E : Type 0} (r : Result T E) (s new : State) (t t' : Option (List Step)) → Makes s new Build None
    → MatchResult r (λ _. t' ≡ with_steps t (Build ∷ [])) (λ _. t' ≡ t) → Goes r s new t t'
builds r s new t t' makes told = goes_quietly r s new Build t t' makes.permitted makes.made refl refl told

-- ---- a file that is worked on

all_three : (a b c : Bool) → a ≡ true → b ≡ false → (not b && c) ≡ false → (a && not b && not c) ≡ true
all_three true false false e e' none = refl
all_three true false true e e' none = absurd (let wrong : true ≡ false = none in cc)
all_three true true c e e' none = absurd (let wrong : true ≡ false = e' in cc)
all_three false b c e e' none = absurd (let wrong : false ≡ true = e in cc)

pub own_there : (s : State) → looked s ≡ true → s.stale ≡ false → is_at_rest s ≡ false → has_own s ≡ true
own_there s seen built some = all_three (looked s) s.stale (is_empty s.todo) seen built some

pub works_landing : {T : Type 0} (r : Result T ServeEnd) (s new : State) (landed : Landed) (h h' : Kept) (f f' : ℕ)
    → Lands s new landed → TellsLanded r landed h h' f f' → Works r s [] new h h' f f'
works_landing r s new (Shown (Work p n list b) out) h h' f f' lands tells =
    works_telling r s new (Work p n list b) (Some out) h h' f f' lands.1.permitted lands.1.made lands.1.answered refl tells
works_landing r s new (Shown (Take inp) out) h h' f f' lands tells = absurd lands.0
works_landing r s new (Shown Look out) h h' f f' lands tells = absurd lands.0
works_landing r s new (Shown Build out) h h' f f' lands tells = absurd lands.0
works_landing r s new (Shown (step.Dropped p) out) h h' f f' lands tells = absurd lands.0
works_landing r s new (Shown Idle out) h h' f f' lands tells = absurd lands.0
works_landing r s new (Quiet (Work p n list b)) h h' f f' lands tells =
    works_telling r s new (Work p n list b) None h h' f f' lands.1.permitted lands.1.made lands.1.answered refl tells
works_landing r s new (Quiet (Take inp)) h h' f f' lands tells = absurd lands.0
works_landing r s new (Quiet Look) h h' f f' lands tells = absurd lands.0
works_landing r s new (Quiet Build) h h' f f' lands tells = absurd lands.0
works_landing r s new (Quiet (step.Dropped p)) h h' f f' lands tells = absurd lands.0
works_landing r s new (Quiet Idle) h h' f f' lands tells = absurd lands.0
works_landing r s new (Dropped made) h h' f f' lands tells = absurd lands
works_landing r s new (Later item) h h' f f' lands tells = absurd lands

-- nothing was done
waits : {T : Type 0} (r : Result T ServeEnd) (s new : State) (h h' : Kept) (f f' : ℕ) → new ≡ s → IsDone r → h' ≡ h → f' ≡ f → Works r s [] new h h' f f'
waits (Ok done) s new h h' f f' left is_done same unfailed = (subst (λ t. Did s [] t h h') (sym left) (subst (Did s [] s h) (sym same) (did_nothing s h)), tt, unfailed)
waits (Err e) s new h h' f f' left is_done same unfailed = absurd is_done

-- what comes of an item of a file
pub works_item : {T : Type 0} (r : Result T ServeEnd) (s new : State) (p : Path) (item : Item) (landed : Landed) (h h' : Kept) (f f' : ℕ)
    → LandsAt s new p item landed → TellsLanded r landed h h' f f' → Works r s [] new h h' f f'
works_item r s new p item (Shown (Work q n list b) out) h h' f f' lands tells =
    works_telling r s new (Work q n list b) (Some out) h h' f f' lands.2.permitted lands.2.made lands.2.answered refl tells
works_item r s new p item (Shown (Take inp) out) h h' f f' lands tells = absurd lands.1
works_item r s new p item (Shown Look out) h h' f f' lands tells = absurd lands.1
works_item r s new p item (Shown Build out) h h' f f' lands tells = absurd lands.1
works_item r s new p item (Shown (step.Dropped q) out) h h' f f' lands tells = absurd lands.1
works_item r s new p item (Shown Idle out) h h' f f' lands tells = absurd lands.1
works_item r s new p item (Quiet (Work q n list b)) h h' f f' lands tells =
    works_telling r s new (Work q n list b) None h h' f f' lands.2.permitted lands.2.made lands.2.answered refl tells
works_item r s new p item (Quiet (Take inp)) h h' f f' lands tells = absurd lands.1
works_item r s new p item (Quiet Look) h h' f f' lands tells = absurd lands.1
works_item r s new p item (Quiet Build) h h' f f' lands tells = absurd lands.1
works_item r s new p item (Quiet (step.Dropped q)) h h' f f' lands tells = absurd lands.1
works_item r s new p item (Quiet Idle) h h' f f' lands tells = absurd lands.1
works_item r s new p item (Dropped made) h h' f f' lands tells =
    works_telling r s new made None h h' f f' lands.1.permitted lands.1.made lands.1.answered (ap hearing_in lands.0) tells
works_item r s new p item (Later back) h h' f f' lands tells = waits r s new h h' f f' lands.3 tells.0 tells.1 tells.2

-- an item that waits is the one that was landed
pub back_is : (s new : State) (p : Path) (item : Item) (landed : Landed) (job : Known) → LandsAt s new p item landed → IsFoundIn job item.number item.list → IsWaiting job (given_back landed)
back_is s new p item (Shown made out) job lands found = tt
back_is s new p item (Quiet made) job lands found = tt
back_is s new p item (Dropped made) job lands found = tt
back_is s new p item (Later back) job lands found = subst (λ (i : Item). IsFoundIn job i.number i.list) (sym lands.2) found

-- ---- a reply

pub replies : {T : Type 0} (r : Result T ServeEnd) (s new : State) (out : Option Out) (h h' : Kept) (f f' : ℕ)
    → Makes s new Idle out → Tells r Idle out h h' f f' → Works r s [] new h h' f f'
replies r s new out h h' f f' makes tells = works_telling r s new Idle out h h' f f' makes.permitted makes.made makes.answered refl tells

-- ---- one step, or none

pub tells_one : {T : Type 0} (r : Result T ServeEnd) (x : Step) (out : Option Out) (h h' : Kept) (f f' : ℕ) → Tells r x out h h' f f'
    → OnOk r (GainsOne h.told h'.told)
tells_one (Ok done) x out h h' f f' (inl told) = (x, told.0)
tells_one (Ok done) x out h h' f f' (inr want) = absurd want.0
tells_one (Err e) x out h h' f f' tells = tt

pub landed_one : {T : Type 0} (r : Result T ServeEnd) (s new : State) (landed : Landed) (h h' : Kept) (f f' : ℕ) → Lands s new landed → TellsLanded r landed h h' f f'
    → OnOk r (GainsOne h.told h'.told)
landed_one r s new (Shown made out) h h' f f' lands tells = tells_one r made (Some out) h h' f f' tells
landed_one r s new (Quiet made) h h' f f' lands tells = tells_one r made None h h' f f' tells
landed_one r s new (Dropped made) h h' f f' lands tells = absurd lands
landed_one r s new (Later item) h h' f f' lands tells = absurd lands

-- a step that writes nothing, whatever the sink holds
pub works_quietly : {T : Type 0} (r : Result T ServeEnd) (s new : State) (held : Option (List ℕ)) (t t' : Option (List Step)) (f : ℕ)
    → IfErr r (λ e. e ≡ NoMemory) → Goes r s new t t' → Works r s [] new (record { held = held; told = t }) (record { held = held; told = t' }) f f
works_quietly (Ok done) s new held t t' f want goes = (goes held, tt, refl)
works_quietly (Err WriteFault) s new held t t' f want goes = absurd (let wrong : WriteFault ≡ NoMemory = want in cc)
works_quietly (Err NoMemory) s new held t t' f want goes = (goes held, refl)

-- what hears nothing leaves a pass as it was
pub hears_nothing : {T : Type 0} (r : Result T ServeEnd) (s new : State) (p : List Heard) (h h' : Kept) (f f' : ℕ) → Works r s [] new h h' f f'
    → Turns r s new p p h h' f f'
hears_nothing r s new p h h' f f' works = ([], sym (append-nil p), works)

-- nothing is done
pub does_nothing : {T : Type 0} (done : T) (s : State) (h : Kept) (f : ℕ) → Works (Ok done) s [] s h h f f
does_nothing done s h f = (did_nothing s h, tt, refl)

-- ---- one call after what was done before

pub turns_then : {T : Type 0} (r : Result T ServeEnd) (s t u : State) (heard first p q : List Heard) (h h' h'' : Kept) (f f' f'' : ℕ)
    → p ≡ first ++ heard → Did s heard t h h' → AreWhole heard → f' ≡ f → Turns r t u p q h' h'' f' f'' → Turns r s u first q h h'' f f''
turns_then r s t u heard first p q h h' h'' f f' f'' is did whole same turns = (
  heard ++ turns.0,
  turns.1 ∙ ap (λ k. k ++ turns.0) is ∙ append_assoc first heard turns.0,
  works_then r s t u heard turns.0 h h' h'' f f' f'' did whole same turns.2,
)

-- a call that was cut short at once, because memory ran out
pub stopped_at_once : (s t : State) (heard first p : List Heard) (h h' : Kept) (f f' : ℕ)
    → p ≡ first ++ heard → Did s heard t h h' → AreWhole heard → f' ≡ f → Turns {T = Unit {0}} (Err NoMemory) s t first p h h' f f'
stopped_at_once s t heard first p h h' f f' is did whole same =
    turns_then {T = Unit {0}} (Err NoMemory) s t t heard first p p h h' h' f f' f' is did whole same ([], sym (append-nil p), (no_step t [] h' h' (omega arith) refl refl, refl))

-- a call that does nothing more
pub done_at_once : (s t : State) (heard first p : List Heard) (h h' : Kept) (f f' : ℕ)
    → p ≡ first ++ heard → Did s heard t h h' → AreWhole heard → f' ≡ f → Turns {T = Unit {0}} (Ok tt) s t first p h h' f f'
done_at_once s t heard first p h h' f f' is did whole same =
    turns_then {T = Unit {0}} (Ok tt) s t t heard first p p h h' h' f f' f' is did whole same ([], sym (append-nil p), (did_nothing t h', tt, refl))

-- one step, and then what a call did
pub gains_some : {T : Type 0} (r : Result T ServeEnd) (s t : State) (p q : List Heard) (h : Kept) (h' h'' : Kept) (f f' : ℕ)
    → GainsOne h.told h'.told → Turns r s t p q h' h'' f f' → OnOk r (GainsSome h.told h''.told)
gains_some (Ok done) s t p q h h' h'' f f' one turns = (one.0, turns.2.0.steps, gains_then h.told h'.told h''.told (one.0 ∷ []) turns.2.0.steps one.1 turns.2.0.gains)
gains_some (Err e) s t p q h h' h'' f f' one turns = tt

-- ---- the inbox and the end

both : (a b : Bool) → (a && b) ≡ true → (a ≡ true) × (b ≡ true)
both true b e = (refl, e)
both false b e = absurd (let wrong : false ≡ true = e in cc)

none_of : {X : Type 0} (o : Option X) → is_none o ≡ true → is_some o ≡ false
none_of None e = refl
none_of (Some x) e = absurd (let wrong : false ≡ true = e in cc)

pub is_over : (a : Account) → is_some a.state.ended ≡ true → is_at_rest a.state ≡ true → is_idle a ≡ true → IsOver a.state
is_over a ended rest idle = record {
  ended = ended;
  rest = rest;
  answered = none_of a.state.owing (both a.idle (is_none a.state.owing) idle).1;
}

-- where the inbox doesn't count as looked at, the end wasn't taken
pub unended : (s : State) → looked s ≡ false → is_some s.ended ≡ false
unended s unlooked = by s.seen (is_some s.ended) (is_some s.owing) unlooked
  where
    by : (a b c : Bool) → (a || b || c) ≡ false → b ≡ false
    by false false c e = refl
    by false true c e = e
    by true b c e = absurd (let wrong : true ≡ false = e in cc)
