-- What the core may count on when errors of a file land.
use Rattle.std.proofs.Common.{◌≡◌, Bool, true, false, not, ◌&&◌, ◌||◌, List, [], ◌∷◌, refl, sym, ap, ap₂, ◌∙◌, arith}
use Rattle.std.specs.Prelude.{bytes_eq}
use Rattle.std.proofs.lemmas.Bool.{and_parts, both_ways, or_parts, or_left, true_from_ne_false}
use Rattle.std.proofs.lemmas.Bool.Decides.{nat_tests}
use Rattle.srb_terms.specs.Projects.{IsProject}
use Rattle.lsp_docs.specs.Paths.{Path, has}
use Rattle.lsp_docs.specs.Projects.{Project, Edit, after_edit, paths_of}
use Rattle.lsp_docs.specs.Uris.{is_empty}
use Rattle.lsp_docs.proofs.PathLemmas.{self_path, has-with_path, has-without_path, has-with_paths, IsProject-with_bytes}
use Rattle.run_watch.specs.declared.step.Step.{Step}
use Rattle.run_watch.specs.declared.step.Step.TheVariants.{Take, Look, Build, Work, Dropped, Idle}
use Rattle.run_watch.specs.declared.inp.Inp.TheVariants.{Msg, End}
use Rattle.run_core.specs.Language.{Language, IsLanguage}
use Rattle.run_core.specs.Sessions.{Session, Told, Nothing, Failed, Logged, Began, Edited, Kept, Ended, told, after_told}
use Rattle.run_core.specs.Histories.{History, no_history, heard}
use Rattle.run_core.specs.Machine.{State, opening, project_of, looked, is_at_rest, may_work, may_drop, must_wait, after_taken_edit, after_message, next}
use Rattle.run_core.specs.Runs.{state_after, last_state, built_last}
use Rattle.run_core.proofs.Shown.{differs}

-- ---- owed files are to be worked on

-- where nothing is stale, each owed file is to be worked on
abbrev pub OwedAsked : State → Type 0
OwedAsked s = s.stale ≡ false → (f : Path) → has f s.owed ≡ true → has f s.todo ≡ true

asked_edit : (s : State) (k : Bool) (f : Path) → OwedAsked s → OwedAsked (after_taken_edit s k f)
asked_edit s true f a = λ c g p.
    let q = sym (has-with_path g f s.owed) ∙ p in
    let i = a c g in
    has-with_path g f s.todo ∙ grind (arith, nat_tests, q, i)
asked_edit s false f a = λ c g p. absurd (both_ways true c refl)

asked_take : (language : Language) (s : State) (t : Told) → OwedAsked s → OwedAsked (after_message language s t)
asked_take language s (Edited e opened) a = asked_edit s (language.keeps (project_of s) e) e.path a
asked_take language s (Began id agreed) a = λ c g p. absurd (both_ways true c refl)
asked_take language s Nothing a = a
asked_take language s (Failed id code) a = a
asked_take language s (Logged method reason) a = a
asked_take language s (Kept f) a = a
asked_take language s (Ended id) a = a

-- each step keeps it, permitted or not
pub asked_next : (language : Language) (s : State) (x : Step) → OwedAsked s → OwedAsked (next language s x)
asked_next language s (Take (Msg m)) a = asked_take language s (told s.session m) a
asked_next language s (Take (End cause)) a = a
asked_next language s Look a = a
asked_next language s Build a = λ c g p. has-with_paths g (paths_of (project_of s)) s.owed ∙ grind (arith, nat_tests, p)
asked_next language s (Work f n list shown) a = λ c g p.
    let q = and_parts (not (bytes_eq g f)) (has g s.owed) (sym (has-without_path g f s.owed) ∙ p) in
    let i = a c g q.1 in
    let d = q.0 in
    has-without_path g f s.todo ∙ grind (arith, nat_tests, d, i)
asked_next language s (Dropped f) a = a
asked_next language s Idle a = a

pub asked_after : (language : Language) (s : State) (xs : List Step) → OwedAsked s → OwedAsked (state_after language s xs)
asked_after language s [] a = a
asked_after language s (x ∷ xs) a = asked_after language (next language s x) xs (asked_next language s x a)

-- After any steps each owed file is to be worked on, where nothing is stale.
pub owed_asked : (language : Language) (base : Project) (xs : List Step) → OwedAsked (last_state language base xs)
owed_asked language base xs = asked_after language (opening base) xs (λ c f p. absurd (both_ways false refl p))

-- some path is in a set that isn't empty
some_path : (gs : List Path) → is_empty gs ≡ false → (f : Path) × (has f gs ≡ true)
some_path [] p = absurd (both_ways true p refl)
some_path (g ∷ gs) p = (g, or_left _ _ (self_path g))

-- Where the inbox was looked at, something is left, and no file may be worked on, the symbol table is stale.
pub stale_or_work : (s : State) → OwedAsked s → looked s ≡ true → is_at_rest s ≡ false → ((f : Path) → may_work s f ≡ false) → s.stale ≡ true
stale_or_work s asked look rest none = true_from_ne_false _ (λ built. by_owed built (is_empty s.owed) refl)
  where
    left : s.stale ≡ false → is_empty s.todo ≡ false
    left built = let r = rest in grind (arith, nat_tests, r, built)

    by_owed : s.stale ≡ false → (b : Bool) → is_empty s.owed ≡ b → ⊥
    by_owed built true e =
        let some = some_path s.todo (left built) in
        let h = some.1 in let no = none some.0 in grind (arith, nat_tests, look, built, e, h, no)
    by_owed built false e =
        let some = some_path s.owed e in
        let o = some.1 in let h = asked built some.0 some.1 in let no = none some.0 in grind (arith, nat_tests, look, built, o, h, no)

-- ---- landing

-- Errors of a file that land may be thrown away, or must wait, or may be worked in.
pub landing : (s : State) (f : Path) → (may_drop s f || (must_wait s f || may_work s f)) ≡ true
landing s f =
    by (looked s) s.stale (has f s.todo) (has f s.edited) (has f s.owed) (is_empty s.owed)
  where
    by : (a b c d e g : Bool) → ((b || not c || d) || ((not a || (not e && not g)) || (a && not b && c && (e || g)))) ≡ true
    by a b c d e g = grind (arith, nat_tests)

-- Errors that must wait may not be worked in.
pub waiting_apart : (s : State) (f : Path) → must_wait s f ≡ true → may_work s f ≡ false
waiting_apart s f wait =
    by (looked s) s.stale (has f s.todo) (has f s.owed) (is_empty s.owed) wait
  where
    by : (a b c e g : Bool) → (not a || (not e && not g)) ≡ true → (a && not b && c && (e || g)) ≡ false
    by a b c e g p = grind (arith, nat_tests, p)

-- the errors of each file that isn't edited are those of the project at the last build, where nothing is stale
pub record Landed (language : Language) (built : Project) (s : State) : Type 0 where
  pub order : IsProject (project_of s)
  pub fresh : s.stale ≡ false → (f : Path) → has f s.edited ≡ false → language.fresh (project_of s) f ≡ language.fresh built f

landed_edit : (language : Language) → IsLanguage language → (built : Project) (s : State) (e : Edit) (opened : List Path) (k : Bool) → language.keeps (project_of s) e ≡ k →
    Landed language built s → (after_taken_edit s k e.path).stale ≡ false → (f : Path) → has f (after_taken_edit s k e.path).edited ≡ false →
    language.fresh (after_edit (project_of s) e) f ≡ language.fresh built f
landed_edit language laws built s e opened true keeps landed c f p =
    let q = or_parts (bytes_eq f e.path) (has f s.edited) (sym (has-with_path f e.path s.edited) ∙ p) in
    laws.kept (project_of s) e f landed.order keeps (differs f e.path q.0) ∙ landed.fresh c f q.1
landed_edit language laws built s e opened false keeps landed c f p = absurd (both_ways true c refl)

landed_take : (language : Language) → IsLanguage language → (built : Project) (s : State) (t : Told) →
    Landed language built s → Landed language built (after_message language s t)
landed_take language laws built s (Edited e opened) landed = record {
  order = IsProject-with_bytes e.path e.now (project_of s) landed.order;
  fresh = landed_edit language laws built s e opened (language.keeps (project_of s) e) refl landed;
}
landed_take language laws built s (Began id agreed) landed = record { order = landed.order; fresh = λ c f p. absurd (both_ways true c refl) }
landed_take language laws built s Nothing landed = record { order = landed.order; fresh = landed.fresh }
landed_take language laws built s (Failed id code) landed = record { order = landed.order; fresh = landed.fresh }
landed_take language laws built s (Logged method reason) landed = record { order = landed.order; fresh = landed.fresh }
landed_take language laws built s (Kept f) landed = record { order = landed.order; fresh = landed.fresh }
landed_take language laws built s (Ended id) landed = record { order = landed.order; fresh = landed.fresh }

landed_after : (language : Language) → IsLanguage language → (h : History) (built : Project) (s : State) (xs : List Step) → s.session ≡ h.session →
    Landed language built s → Landed language (built_last h built xs) (state_after language s xs)
landed_after language laws h built s [] same landed = landed
landed_after language laws h built s (Take (Msg m) ∷ xs) same landed =
    landed_after language laws (heard h m) built (next language s (Take (Msg m))) xs (ap₂ after_told same (ap (λ x. told x m) same))
    (landed_take language laws built s (told s.session m) landed)
landed_after language laws h built s (Take (End cause) ∷ xs) same landed =
    landed_after language laws h built (next language s (Take (End cause))) xs same (record { order = landed.order; fresh = landed.fresh })
landed_after language laws h built s (Look ∷ xs) same landed =
    landed_after language laws h built (next language s Look) xs same (record { order = landed.order; fresh = landed.fresh })
landed_after language laws h built s (Build ∷ xs) same landed =
    landed_after language laws h h.session.documents.project (next language s Build) xs same (record {
      order = landed.order;
      fresh = λ c f p. ap (λ (x : Session). language.fresh x.documents.project f) same;
    })
landed_after language laws h built s (Work f n list shown ∷ xs) same landed =
    landed_after language laws h built (next language s (Work f n list shown)) xs same (record { order = landed.order; fresh = landed.fresh })
landed_after language laws h built s (Dropped f ∷ xs) same landed = landed_after language laws h built s xs same landed
landed_after language laws h built s (Idle ∷ xs) same landed =
    landed_after language laws h built (next language s Idle) xs same (record { order = landed.order; fresh = landed.fresh })

-- What was found at the last build and may not be thrown away is what a fresh check finds now.
pub landed_is_fresh : (language : Language) → IsLanguage language → (base : Project) → IsProject base → (steps : List Step) (f : Path) →
    may_drop (last_state language base steps) f ≡ false →
    language.fresh (built_last (no_history base) base steps) f ≡ language.fresh (project_of (last_state language base steps)) f
landed_is_fresh language laws base order steps f kept =
    let s = last_state language base steps in
    let landed = landed_after language laws (no_history base) base (opening base) steps refl (record { order = order; fresh = λ c f p. refl }) in
    let a = or_parts (s.stale || not (has f s.todo)) (has f s.edited) kept in
    let b = or_parts s.stale (not (has f s.todo)) a.0 in
    sym (landed.fresh b.0 f a.1)
