-- What steps did, one call after the other.
use Rattle.std.proofs.Common.{◌≡◌, inl, inr, ℕ, ◌≤◌, List, [], ◌∷◌, ◌++◌, length, take, map, None, Some, Result, Ok, Err, refl, sym, ap, ◌∙◌, subst, arith, append_assoc, append-nil}
use Rattle.std.specs.Prelude.{Option, MatchResult}
use Rattle.std.proofs.lemmas.List.{map-append}
use Rattle.std.proofs.KnownBytes.{Appends-nil, Appends-trans, Appends-kept}
use Rattle.std.specs.Io.KnownBytes.{Appends, Keeps}
use Rattle.srb_io.specs.Counts.{HasRisen}
use Rattle.lsp_frame.specs.Written.{frame, frames}
use Rattle.lsp_msg.specs.Written.{body_of}
use Rattle.lsp_msg.specs.declared.out.Out.{Out}
use Rattle.run_watch.specs.Told.{with_steps}
use Rattle.run_watch.specs.declared.step.Step.{Step}
use Rattle.run_core.specs.Histories.{listed}
use Rattle.run_core.specs.Language.{Language}
use Rattle.run_core.specs.Machine.{State, Permits, next, written}
use Rattle.run_core.specs.Runs.{Leads, state_after, written_by}
use Rattle.run_core.specs.Cores.{checked_language}
use Rattle.run_core.specs.Frames.{written_as}
use Rattle.run_queues.specs.declared.heard.Heard.{Heard}
use Rattle.run_serve.specs.declared.serve_end.ServeEnd.{ServeEnd}
use Rattle.run_serve.specs.declared.serve_end.ServeEnd.TheVariants.{WriteFault, NoMemory}
use Rattle.run_serve.specs.Deeds.{Kept, Did, DidPart, DidFront, Works, Goes, Says, Tells, hearing_in, hearings_in, AreWhole}

-- ---- lists of steps

Leads-append : (l : Language) (s : State) (xs ys : List Step) → Leads l s xs → Leads l (state_after l s xs) ys → Leads l s (xs ++ ys)
Leads-append l s [] ys p q = q
Leads-append l s (x ∷ xs) ys p q = (p.0, Leads-append l (next l s x) xs ys p.1 q)

state_after-append : (l : Language) (s : State) (xs ys : List Step) → state_after l s (xs ++ ys) ≡ state_after l (state_after l s xs) ys
state_after-append l s [] ys = refl
state_after-append l s (x ∷ xs) ys = state_after-append l (next l s x) xs ys

written_by-append : (l : Language) (s : State) (xs ys : List Step) → written_by l s (xs ++ ys) ≡ written_by l s xs ++ written_by l (state_after l s xs) ys
written_by-append l s [] ys = refl
written_by-append l s (x ∷ xs) ys =
    ap (λ o. listed (written s x) ++ o) (written_by-append l (next l s x) xs ys)
    ∙ sym (append_assoc (listed (written s x)) (written_by l (next l s x) xs) (written_by l (state_after l (next l s x) xs) ys))

hearings_in-append : (xs ys : List Step) → hearings_in (xs ++ ys) ≡ hearings_in xs ++ hearings_in ys
hearings_in-append [] ys = refl
hearings_in-append (x ∷ xs) ys =
    ap (λ o. hearing_in x ++ o) (hearings_in-append xs ys) ∙ sym (append_assoc (hearing_in x) (hearings_in xs) (hearings_in ys))

-- of two lists of what was heard none is lost
pub AreWhole-append : (hs ks : List Heard) → AreWhole hs → AreWhole ks → AreWhole (hs ++ ks)
AreWhole-append [] ks p q = q
AreWhole-append (h ∷ hs) ks p q = (p.0, AreWhole-append hs ks p.1 q)

-- ---- what a trace tells

gains_none : (t : Option (List Step)) → t ≡ with_steps t []
gains_none None = refl
gains_none (Some xs) = ap Some (sym (append-nil xs))

with_steps-twice : (t : Option (List Step)) (xs ys : List Step) → with_steps (with_steps t xs) ys ≡ with_steps t (xs ++ ys)
with_steps-twice None xs ys = refl
with_steps-twice (Some zs) xs ys = ap Some (append_assoc zs xs ys)

pub gains_then : (t t' t'' : Option (List Step)) (xs ys : List Step) → t' ≡ with_steps t xs → t'' ≡ with_steps t' ys → t'' ≡ with_steps t (xs ++ ys)
gains_then t t' t'' xs ys p q = q ∙ ap (λ k. with_steps k ys) p ∙ with_steps-twice t xs ys

-- ---- frames

frames-append : (xs ys : List (List ℕ)) → frames (xs ++ ys) ≡ frames xs ++ frames ys
frames-append [] ys = refl
frames-append (x ∷ xs) ys = ap (λ o. frame x ++ o) (frames-append xs ys) ∙ sym (append_assoc (frame x) (frames xs) (frames ys))

pub written_as-append : (xs ys : List Out) → written_as (xs ++ ys) ≡ written_as xs ++ written_as ys
written_as-append xs ys = ap frames (map-append body_of xs ys) ∙ frames-append (map body_of xs) (map body_of ys)

-- ---- nothing, and one step

pub did_nothing : (s : State) (h : Kept) → Did s [] s h h
did_nothing s h = record { steps = []; leads = tt; there = refl; took = refl; gains = gains_none h.told; writes = Appends-nil h.held }

pub did_step : (s new : State) (x : Step) (out : Option Out) (h h' : Kept) → Permits checked_language s x
    → new ≡ next checked_language s x → out ≡ written s x → h'.told ≡ with_steps h.told (x ∷ []) → Appends h.held h'.held (written_as (listed out))
    → Did s (hearing_in x) new h h'
did_step s new x out h h' permitted made is told appends = record {
  steps = x ∷ [];
  leads = (permitted, tt);
  there = made;
  took = append-nil (hearing_in x);
  gains = told;
  writes = subst (λ o. Appends h.held h'.held (written_as o)) (sym (append-nil (listed (written s x)) ∙ ap listed (sym is))) appends;
}

-- no step because memory ran out
pub no_step : (s : State) (is : List Heard) (h h' : Kept) → length is ≤ 1 → h'.told ≡ h.told → h'.held ≡ h.held → DidFront s is h h'
no_step s is h h' most told held = record {
  steps = [];
  later = is;
  leads = tt;
  took = refl;
  most = most;
  gains = told ∙ gains_none h.told;
  outs = [];
  rest = [];
  wrote = refl;
  writes = subst (λ k. Appends h.held k []) (sym held) (Appends-nil h.held);
}

-- a step that writes nothing, of which the trace took note or not
pub goes_quietly : {T E : Type 0} (r : Result T E) (s new : State) (x : Step) (t t' : Option (List Step)) → Permits checked_language s x
    → new ≡ next checked_language s x → written s x ≡ None → hearing_in x ≡ [] → MatchResult r (λ _. t' ≡ with_steps t (x ∷ [])) (λ _. t' ≡ t)
    → Goes r s new t t'
goes_quietly (Ok done) s new x t t' permitted made quiet none told = λ held.
    subst (λ k. Did s k new (record { held = held; told = t }) (record { held = held; told = t' })) none
    (did_step s new x None (record { held = held; told = t }) (record { held = held; told = t' }) permitted made (sym quiet) told (Appends-nil held))
goes_quietly (Err e) s new x t t' permitted made quiet none told = λ held.
    no_step s [] (record { held = held; told = t }) (record { held = held; told = t' }) (omega arith) told refl

-- ---- one after the other

pub did_then : (s t u : State) (is js : List Heard) (h h' h'' : Kept) → Did s is t h h' → Did t js u h' h'' → Did s (is ++ js) u h h''
did_then s t u is js h h' h'' d e =
    let at = λ (v : State). Leads checked_language v e.steps in
    let reached : u ≡ state_after checked_language (state_after checked_language s d.steps) e.steps =
    e.there ∙ ap (λ v. state_after checked_language v e.steps) d.there in
    let wrote : written_as (written_by checked_language s (d.steps ++ e.steps)) ≡ written_as (written_by checked_language s d.steps) ++ written_as (written_by checked_language t e.steps) =
    ap written_as (written_by-append checked_language s d.steps e.steps ∙ ap (λ v. written_by checked_language s d.steps ++ written_by checked_language v e.steps) (sym d.there))
    ∙ written_as-append (written_by checked_language s d.steps) (written_by checked_language t e.steps) in
    record {
      steps = d.steps ++ e.steps;
      leads = Leads-append checked_language s d.steps e.steps d.leads (subst at d.there e.leads);
      there = reached ∙ sym (state_after-append checked_language s d.steps e.steps);
      took = hearings_in-append d.steps e.steps ∙ ap (λ k. k ++ hearings_in e.steps) d.took ∙ ap (λ k. is ++ k) e.took;
      gains = gains_then h.told h'.told h''.told d.steps e.steps d.gains e.gains;
      writes = subst (Appends h.held h''.held) (sym wrote) (Appends-trans h.held h'.held h''.held _ _ d.writes e.writes);
    }

-- what was written of two lists of steps, where the second's stopped at some message
wrote_then : (s t : State) (xs ys : List Step) (outs rest : List Out) → t ≡ state_after checked_language s xs → written_by checked_language t ys ≡ outs ++ rest
    → written_by checked_language s (xs ++ ys) ≡ (written_by checked_language s xs ++ outs) ++ rest
wrote_then s t xs ys outs rest there wrote =
    written_by-append checked_language s xs ys ∙ ap (λ v. written_by checked_language s xs ++ written_by checked_language v ys) (sym there)
    ∙ ap (λ o. written_by checked_language s xs ++ o) wrote ∙ sym (append_assoc (written_by checked_language s xs) outs rest)

pub did_then_part : (s t u : State) (is js : List Heard) (h h' h'' : Kept) → Did s is t h h' → DidPart t js u h' h'' → DidPart s (is ++ js) u h h''
did_then_part s t u is js h h' h'' d e =
    let at = λ (v : State). Leads checked_language v e.steps in
    let cut = take e.part (frame (body_of e.last)) in
    let first = written_by checked_language s d.steps in
    let reached : u ≡ state_after checked_language (state_after checked_language s d.steps) e.steps =
    e.there ∙ ap (λ v. state_after checked_language v e.steps) d.there in
    let bytes : written_as first ++ (written_as e.outs ++ cut) ≡ written_as (first ++ e.outs) ++ cut =
    sym (append_assoc (written_as first) (written_as e.outs) cut) ∙ ap (λ o. o ++ cut) (sym (written_as-append first e.outs)) in
    record {
      steps = d.steps ++ e.steps;
      leads = Leads-append checked_language s d.steps e.steps d.leads (subst at d.there e.leads);
      there = reached ∙ sym (state_after-append checked_language s d.steps e.steps);
      took = hearings_in-append d.steps e.steps ∙ ap (λ k. k ++ hearings_in e.steps) d.took ∙ ap (λ k. is ++ k) e.took;
      gains = gains_then h.told h'.told h''.told d.steps e.steps d.gains e.gains;
      outs = first ++ e.outs;
      last = e.last;
      part = e.part;
      wrote = wrote_then s t d.steps e.steps e.outs (e.last ∷ []) d.there e.wrote;
      short = e.short;
      writes = subst (Appends h.held h''.held) bytes (Appends-trans h.held h'.held h''.held _ _ d.writes e.writes);
    }

pub did_then_front : (s t : State) (is js : List Heard) (h h' h'' : Kept) → Did s is t h h' → DidFront t js h' h'' → DidFront s (is ++ js) h h''
did_then_front s t is js h h' h'' d e =
    let at = λ (v : State). Leads checked_language v e.steps in
    let first = written_by checked_language s d.steps in
    let heard : is ++ js ≡ hearings_in (d.steps ++ e.steps) ++ e.later =
    ap (λ k. is ++ k) e.took ∙ ap (λ k. k ++ (hearings_in e.steps ++ e.later)) (sym d.took) ∙ sym (append_assoc (hearings_in d.steps) (hearings_in e.steps) e.later)
    ∙ ap (λ k. k ++ e.later) (sym (hearings_in-append d.steps e.steps)) in
    record {
      steps = d.steps ++ e.steps;
      later = e.later;
      leads = Leads-append checked_language s d.steps e.steps d.leads (subst at d.there e.leads);
      took = heard;
      most = e.most;
      gains = gains_then h.told h'.told h''.told d.steps e.steps d.gains e.gains;
      outs = first ++ e.outs;
      rest = e.rest;
      wrote = wrote_then s t d.steps e.steps e.outs e.rest d.there e.wrote;
      writes = subst (Appends h.held h''.held) (sym (written_as-append first e.outs)) (Appends-trans h.held h'.held h''.held _ _ d.writes e.writes);
    }

-- ---- calls

-- a call after what was done before
pub works_then : {T : Type 0} (r : Result T ServeEnd) (s t u : State) (is js : List Heard) (h h' h'' : Kept) (f f' f'' : ℕ)
    → Did s is t h h' → AreWhole is → f' ≡ f → Works r t js u h' h'' f' f'' → Works r s (is ++ js) u h h'' f f''
works_then (Ok done) s t u is js h h' h'' f f' f'' d whole same w = (did_then s t u is js h h' h'' d w.0, AreWhole-append is js whole w.1, w.2 ∙ same)
works_then (Err WriteFault) s t u is js h h' h'' f f' f'' d whole same w =
    (did_then_part s t u is js h h' h'' d w.0, AreWhole-append is js whole w.1, subst (λ k. HasRisen k f'') same w.2)
works_then (Err NoMemory) s t u is js h h' h'' f f' f'' d whole same w = (did_then_front s t is js h h' h'' d w.0, w.1 ∙ same)

-- a step of which the trace took note, and of which nothing was written because memory ran out
pub front_step : (s : State) (x : Step) (h h' : Kept) → Permits checked_language s x → h'.told ≡ with_steps h.told (x ∷ []) → Keeps h.held h'.held
    → DidFront s (hearing_in x) h h'
front_step s x h h' permitted told keeps = record {
  steps = x ∷ [];
  later = [];
  leads = (permitted, tt);
  took = sym (append-nil (hearing_in x ++ []) ∙ append-nil (hearing_in x));
  most = omega arith;
  gains = told;
  outs = [];
  rest = listed (written s x) ++ [];
  wrote = refl;
  writes = Appends-kept h.held h.held h'.held [] (Appends-nil h.held) keeps;
}

-- a step of which the trace took note, and whose message is written
pub works_saying : {T : Type 0} (r : Result T ServeEnd) (s new : State) (x : Step) (out : Option Out) (h h' : Kept) (f f' : ℕ)
    → Permits checked_language s x → new ≡ next checked_language s x → out ≡ written s x → AreWhole (hearing_in x) → h'.told ≡ with_steps h.told (x ∷ [])
    → Says r out h.held h'.held f f' → Works r s (hearing_in x) new h h' f f'
works_saying (Ok done) s new x out h h' f f' permitted made is whole told says = (did_step s new x out h h' permitted made is told says.0, whole, says.1)
works_saying (Err WriteFault) s new x out h h' f f' permitted made is whole told says =
    let last = says.0.0 in
    let wrote : listed (written s x) ++ [] ≡ last ∷ [] =
    append-nil (listed (written s x)) ∙ ap listed (sym is ∙ says.0.2) in (
      record {
        steps = x ∷ [];
        leads = (permitted, tt);
        there = made;
        took = append-nil (hearing_in x);
        gains = told;
        outs = [];
        last = last;
        part = says.0.1;
        wrote = wrote;
        short = says.0.3;
        writes = says.0.4;
      },
      whole,
      says.1,
    )
works_saying (Err NoMemory) s new x out h h' f f' permitted made is whole told says = (front_step s x h h' permitted told says.0, says.1)

-- a step that hears nothing, that the trace is told, and whose message is then written
pub works_telling : {T : Type 0} (r : Result T ServeEnd) (s new : State) (x : Step) (out : Option Out) (h h' : Kept) (f f' : ℕ)
    → Permits checked_language s x → new ≡ next checked_language s x → out ≡ written s x → hearing_in x ≡ [] → Tells r x out h h' f f'
    → Works r s [] new h h' f f'
works_telling r s new x out h h' f f' permitted made is none (inl told) =
    subst (λ k. Works r s k new h h' f f') none
    (works_saying r s new x out h h' f f' permitted made is (subst AreWhole (sym none) tt) told.0 told.1)
works_telling (Ok done) s new x out h h' f f' permitted made is none (inr want) = absurd want.0
works_telling (Err WriteFault) s new x out h h' f f' permitted made is none (inr want) = absurd want.0
works_telling (Err NoMemory) s new x out h h' f f' permitted made is none (inr want) = (no_step s [] h h' (omega arith) want.1 want.2, want.3)
