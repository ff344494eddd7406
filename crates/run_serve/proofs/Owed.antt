-- Which files are owed after each step, what holds where a call ended well, and what a pass of results took.
use Rattle.std.proofs.Common.{◌≡◌, ◌≢◌, ℕ, Bool, true, false, not, ◌&&◌, ◌||◌, List, [], ◌∷◌, ◌++◌, Result, Ok, Err, OnOk, inl, inr, ⊎_elim, refl, sym, ap, ◌∙◌, subst, arith, append_assoc, append-nil}
use Rattle.std.specs.Prelude.{bytes_eq, IfOk, OnErr, Option}
use Rattle.std.proofs.lemmas.Bool.Decides.{nat_tests}
use Rattle.lsp_docs.specs.Paths.{Path, has, with_path, without_path}
use Rattle.lsp_docs.specs.Uris.{is_empty}
use Rattle.lsp_docs.proofs.PathLemmas.{has-with_path, has-without_path, self_path}
use Rattle.run_watch.specs.declared.inp.Inp.TheVariants.{Msg, End}
use Rattle.run_watch.specs.Told.{with_steps}
use Rattle.run_watch.specs.declared.step.Step.{Step}
use Rattle.run_watch.specs.declared.step.Step.TheVariants as step
use Rattle.run_queues.specs.declared.heard.Heard.{Heard}
use Rattle.run_core.specs.declared.landed.Landed.{Landed}
use Rattle.run_core.specs.declared.landed.Landed.TheVariants.{Shown, Quiet, Dropped, Later}
use Rattle.run_core.specs.Sessions.{Session, Told, Nothing, Failed, Logged, Began, Edited, Kept, Ended, told}
use Rattle.run_core.specs.Machine.{State, after_message, after_taken_edit, is_at_rest, next, project_of}
use Rattle.run_core.specs.Language.{Language}
use Rattle.run_core.specs.Cores.{Account, Lands, Makes, checked_language}
use Rattle.run_serve.specs.declared.serve_end.ServeEnd.{ServeEnd}
use Rattle.run_serve.specs.declared.serve_end.ServeEnd.TheVariants.{NoMemory}
use Rattle.run_serve.proofs.Deeds.{no_step}
use Rattle.srb_check.specs.Jobs.{Known}
use Rattle.run_queues.specs.Showings.{Showing}
use Rattle.run_serve.specs.Leading.{Desk, HasLed, HasTaken, IsOwedWhole, how_led, how_path}

-- ---- each file that is to be worked on is owed

owed_edit : (s : State) (k : Bool) (f : Path) → IsOwedWhole s → IsOwedWhole (after_taken_edit s k f)
owed_edit s true f (inl stale) = inl stale
owed_edit s true f (inr owed) = inr (λ g due.
    let q = sym (has-with_path g f s.todo) ∙ due in
    let i = owed g in
    has-with_path g f s.owed ∙ by (bytes_eq g f) (has g s.todo) (has g s.owed) q i)
  where
    by : (a b c : Bool) → (a || b) ≡ true → (b ≡ true → c ≡ true) → (a || c) ≡ true
    by true b c e more = refl
    by false b c e more = more e
owed_edit s false f whole = inl refl

owed_take : (language : Language) (s : State) (t : Told) → IsOwedWhole s → IsOwedWhole (after_message language s t)
owed_take language s (Edited e opened) whole = owed_edit s (language.keeps (project_of s) e) e.path whole
owed_take language s (Began id agreed) whole = inl refl
owed_take language s Nothing whole = whole
owed_take language s (Failed id code) whole = whole
owed_take language s (Logged method reason) whole = whole
owed_take language s (Kept f) whole = whole
owed_take language s (Ended id) whole = whole

-- each step but a build keeps that
abbrev pub IsNoBuild : Step → Type 0
IsNoBuild step.Build = ⊥
IsNoBuild made = Unit {0}

owed_work : (f : Path) (todo owed : List Path) → ((g : Path) → has g todo ≡ true → has g owed ≡ true) → (g : Path) → has g (without_path f todo) ≡ true → has g (without_path f owed) ≡ true
owed_work f todo owed whole g due =
    has-without_path g f owed ∙ by (bytes_eq g f) (has g todo) (has g owed) (sym (has-without_path g f todo) ∙ due) (whole g)
  where
    by : (a b c : Bool) → (not a && b) ≡ true → (b ≡ true → c ≡ true) → (not a && c) ≡ true
    by true b c e more = e
    by false b c e more = more e

pub owed_next : (s new : State) (x : Step) → IsNoBuild x → new ≡ next checked_language s x → IsOwedWhole s → IsOwedWhole new
owed_next s new x no_build made whole = subst IsOwedWhole (sym made) (by x no_build)
  where
    by : (x : Step) → IsNoBuild x → IsOwedWhole (next checked_language s x)
    by (step.Take (Msg m)) no_build = owed_take checked_language s (told s.session m) whole
    by (step.Take (End cause)) no_build = whole
    by step.Look no_build = whole
    by step.Build no_build = absurd no_build
    by (step.Work f n list shown) no_build = ⊎_elim (λ stale. inl stale) (λ owed. inr (owed_work f s.todo s.owed owed)) whole
    by (step.Dropped f) no_build = whole
    by step.Idle no_build = whole

pub owed_makes : (s new : State) (x : Step) (out : _) → IsNoBuild x → Makes s new x out → IsOwedWhole s → IsOwedWhole new
owed_makes s new x out no_build makes whole = owed_next s new x no_build makes.made whole

pub owed_lands : (s new : State) (landed : Landed) → Lands s new landed → IsOwedWhole s → IsOwedWhole new
owed_lands s new (Shown (step.Work p n list b) out) lands whole = owed_next s new (step.Work p n list b) tt lands.1.made whole
owed_lands s new (Shown (step.Take inp) out) lands whole = absurd lands.0
owed_lands s new (Shown step.Look out) lands whole = absurd lands.0
owed_lands s new (Shown step.Build out) lands whole = absurd lands.0
owed_lands s new (Shown (step.Dropped p) out) lands whole = absurd lands.0
owed_lands s new (Shown step.Idle out) lands whole = absurd lands.0
owed_lands s new (Quiet (step.Work p n list b)) lands whole = owed_next s new (step.Work p n list b) tt lands.1.made whole
owed_lands s new (Quiet (step.Take inp)) lands whole = absurd lands.0
owed_lands s new (Quiet step.Look) lands whole = absurd lands.0
owed_lands s new (Quiet step.Build) lands whole = absurd lands.0
owed_lands s new (Quiet (step.Dropped p)) lands whole = absurd lands.0
owed_lands s new (Quiet step.Idle) lands whole = absurd lands.0
owed_lands s new (Dropped made) lands whole = absurd lands
owed_lands s new (Later item) lands whole = absurd lands

-- where nothing is stale and something is to be worked on, some file is owed then
pub owed_some : (s : State) → IsOwedWhole s → s.stale ≡ false → is_at_rest s ≡ false → is_empty s.owed ≡ false
owed_some s (inl stale) built some = absurd (let wrong : true ≡ false = sym stale ∙ built in grind (arith, wrong))
owed_some s (inr owed) built some = by_todo s.todo refl
  where
    has_some : (f : Path) (fs : List Path) → has f fs ≡ true → is_empty fs ≡ false
    has_some f [] e = absurd (grind (arith, e))
    has_some f (g ∷ gs) e = refl

    first : (f : Path) (fs : List Path) → has f (f ∷ fs) ≡ true
    first f fs = ap (λ b. b || has f fs) (self_path f)

    none_left : (b c : Bool) → b ≡ false → (not b && c) ≡ false → c ≡ false
    none_left true c e d = absurd (grind (arith, e))
    none_left false c e d = d

    by_todo : (todo : List Path) → s.todo ≡ todo → is_empty s.owed ≡ false
    by_todo [] is = absurd (let e = none_left s.stale (is_empty s.todo) built some in let d = ap is_empty is in grind (arith, e, d))
    by_todo (f ∷ fs) is = has_some f s.owed (owed f (ap (has f) is ∙ first f fs))

-- nothing is stale and nothing is left to work on, or the symbol table is stale
pub owed_rest : (s : State) → (s.stale ≡ false → is_at_rest s ≡ true) → IsOwedWhole s
owed_rest s rest = by s.stale refl
  where
    todo_none : (b : Bool) (todo : List Path) → b ≡ false → (not b && is_empty todo) ≡ true → (f : Path) → has f todo ≡ true → has f s.owed ≡ true
    todo_none true todo e at_rest f due = absurd (grind (arith, e))
    todo_none false [] e at_rest f due = absurd (grind (arith, due))
    todo_none false (g ∷ gs) e at_rest f due = absurd (grind (arith, at_rest))

    by : (b : Bool) → s.stale ≡ b → IsOwedWhole s
    by true stale = inl stale
    by false built = inr (todo_none s.stale s.todo built (rest built))

-- ---- where a call ended well

pub on_ok : {T E P : Type 0} (r : Result T E) → P → OnOk r P
on_ok (Ok done) p = p
on_ok (Err end) p = tt

pub on_ok_map : {T E P Q : Type 0} (r : Result T E) → (P → Q) → OnOk r P → OnOk r Q
on_ok_map (Ok done) f p = f p
on_ok_map (Err end) f p = tt

-- ---- a pass of results that takes more and more

pub taken_then : (a b c : Showing Known) (n m k : ℕ) → HasTaken a b n m → HasTaken b c m k → HasTaken a c n k
taken_then a b c n m k first next = (
  next.0 ∙ first.0,
  next.1 ∙ first.1,
  next.2 ∙ first.2,
  (first.3.0 ++ next.3.0, next.3.1 ∙ ap (λ got. got ++ next.3.0) first.3.1 ∙ append_assoc a.got first.3.0 next.3.0),
  next.4 ∙ first.4,
  next.5 ∙ first.5,
)

-- ---- how a path ended

pub ok_or_err : {P E R : Type 0} (r : Result P E) {X : P → Type 0} {Y : Type 0} → IfOk r X → OnErr r Y → ((p : P) → r ≡ Ok p → X p → R) → ((e : E) → r ≡ Err e → Y → R) → R
ok_or_err (Ok p) x y well other = well p refl x
ok_or_err (Err e) x y well other = other e refl y

how_ok : {P : Type 0} (E : Type 0) (p : P) (faulted : Bool) → how_path {P = P} {E = E} (Ok p) faulted ≡ how_led (Ok tt) faulted
how_ok E p true = refl
how_ok E p false = refl

-- a path that ended well
pub led_well : {P E : Type 0} {old new : Desk} (how : Result (Unit {0}) ServeEnd) (r : Result P E) (p : P) (faulted : Bool) → how ≡ how_path r faulted → r ≡ Ok p
    → HasLed (how_led (Ok tt) faulted) old new → HasLed how old new
led_well {E = E} {old = old} {new = new} how r p faulted is well led =
    subst (λ h. HasLed h old new) (sym (is ∙ ap (λ x. how_path x faulted) well ∙ how_ok E p faulted)) led

-- a path that ended because memory ran out
pub led_ill : {P E : Type 0} {old new : Desk} (how : Result (Unit {0}) ServeEnd) (r : Result P E) (e : E) (faulted : Bool) → how ≡ how_path r faulted → r ≡ Err e
    → HasLed (Err NoMemory) old new → HasLed how old new
led_ill {old = old} {new = new} how r e faulted is ill led = subst (λ h. HasLed h old new) (sym (is ∙ ap (λ x. how_path x faulted) ill)) led

-- a path that didn't begin
pub led_same : {old new : Desk} → new ≡ old → HasLed (Err NoMemory) old new
led_same {old = old} same = subst (HasLed (Err NoMemory) old) (sym same) (record {
  turns = ([], sym (append-nil old.pass.heard), (no_step old.core.state [] old.kept old.kept (omega arith) refl refl, refl));
  rest = tt;
  checks = refl;
  inbox = (refl, refl);
  none = tt;
  seat = (refl, refl, refl);
})
