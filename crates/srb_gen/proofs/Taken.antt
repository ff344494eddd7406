-- The last step that works on a file tells how many edits were taken.
use Rattle.std.proofs.Common.{◌≡◌, ℕ, Bool, true, false, List, [], ◌∷◌, length, refl, ap, ◌∙◌}
use Rattle.std.specs.Prelude.{bytes_eq, fold, if◌then◌else◌, ◌||◌, is_some, IsSome}
use Rattle.std.proofs.lemmas.Bool.{and_parts, not-true, both_ways, false_from_ne_true}
use Rattle.run_watch.specs.declared.step.Step.{Step}
use Rattle.run_watch.specs.declared.step.Step.TheVariants.{Take, Look, Build, Work, Dropped, Idle}
use Rattle.run_watch.specs.declared.inp.Inp.TheVariants.{Msg, End}
use Rattle.lsp_msg.specs.declared.msg.Msg.{Msg as Message}
use Rattle.lsp_docs.specs.Paths.{Path, has, with_path, is_before}
use Rattle.lsp_docs.specs.Projects.{Project}
use Rattle.lsp_docs.proofs.PathLemmas.{self_path}
use Rattle.run_core.specs.Language.{Language}
use Rattle.run_core.specs.declared.phase.Phase.{Phase}
use Rattle.run_core.specs.declared.phase.Phase.TheVariants.{Waiting, Serving, Closing}
use Rattle.run_core.specs.Sessions.{Told, Nothing, Failed, Logged, Began, Edited, Kept, Ended, told}
use Rattle.run_core.specs.Histories.{history}
use Rattle.run_core.specs.Legal.{IsBegun}
use Rattle.run_core.specs.Machine.{State, opening, project_of, Permits, after_taken_edit, after_message, next}
use Rattle.run_core.specs.Runs.{Leads, state_after, messages_in, Run, last_state, Over}
use Rattle.run_core.proofs.Held.{is_empty_nil}
use Rattle.run_core.proofs.Histories.{Quiet, history_sound}
use Rattle.run_core.proofs.Landing.{owed_asked}
use Rattle.run_core.proofs.Runs.{run_held}
use Rattle.srb_gen.specs.Tallies.{edits_after, edits_in}

-- where no file is owed, this is the number of edits
abbrev IsTold : ℕ → State → Type 0
IsTold n s = s.owed ≡ [] → n ≡ s.epoch

with_some : (f : Path) (gs : List Path) → with_path f gs ≡ [] → ⊥
with_some f [] e = absurd cc
with_some f (g ∷ gs) e = by (bytes_eq f g) (is_before f g) e
  where
    by : (a b : Bool) → (if a then g ∷ gs else (if b then f ∷ g ∷ gs else g ∷ with_path f gs)) ≡ [] → ⊥
    by true b e = absurd cc
    by false true e = absurd cc
    by false false e = absurd cc

told_edit : (n : ℕ) (s : State) (k : Bool) (f : Path) → (after_taken_edit s k f).owed ≡ [] → n ≡ (after_taken_edit s k f).epoch
told_edit n s true f e = absurd (with_some f s.owed e)
told_edit n s false f e = absurd (with_some f s.owed e)

told_take : (language : Language) (n : ℕ) (s : State) (t : Told) → IsTold n s → IsTold n (after_message language s t)
told_take language n s (Edited e opened) h = told_edit n s (language.keeps (project_of s) e) e.path
told_take language n s Nothing h = h
told_take language n s (Failed id code) h = h
told_take language n s (Logged method reason) h = h
told_take language n s (Began id agreed) h = h
told_take language n s (Kept x) h = h
told_take language n s (Ended id) h = h

told_step : (language : Language) (n : ℕ) (s : State) (x : Step) → Permits language s x → IsTold n s → IsTold (edits_after n x) (next language s x)
told_step language n s (Take (Msg m)) p h = told_take language n s (told s.session m) h
told_step language n s (Take (End cause)) p h = h
told_step language n s Look p h = h
told_step language n s Build p h = h
told_step language n s (Work f epoch list shown) p h = λ e. p.now
told_step language n s (Dropped f) p h = h
told_step language n s Idle p h = h

told_run : (language : Language) (n : ℕ) (s : State) (xs : List Step) → Leads language s xs → IsTold n s → IsTold (fold edits_after n xs) (state_after language s xs)
told_run language n s [] p h = h
told_run language n s (x ∷ xs) p h = told_run language (edits_after n x) (next language s x) xs p.1 (told_step language n s x p.0 h)

no_path : (gs : List Path) → ((f : Path) → has f gs ≡ false) → gs ≡ []
no_path [] none = refl
no_path (g ∷ gs) none = absurd (both_ways _ (none g) (ap (λ b. b || has g gs) (self_path g)))

pub edits_are_taken : (language : Language) (base : Project) (steps : List Step) → Run language base steps → Over language base steps →
    edits_in steps ≡ length (history base (messages_in steps)).edits
edits_are_taken language base steps run over =
    let s = last_state language base steps in
    let parts = and_parts _ _ over.rest in
    let built = not-true _ parts.0 in
    let empty = is_empty_nil _ parts.1 in
    let free : (f : Path) → has f s.owed ≡ false = λ f. false_from_ne_true _ (λ q. both_ways _ (ap (has f) empty) (owed_asked language base steps built f q)) in
    told_run language 0 (opening base) steps run (λ e. refl) (no_path s.owed free)
    ∙ (run_held language base steps run).counted

-- a session whose `shutdown` was accepted was begun
pub shut_is_begun : (base : Project) (msgs : List Message) → IsSome (history base msgs).shutdown → IsBegun (history base msgs).session.phase
shut_is_begun base msgs shut = by (history base msgs).session.phase (history_sound base msgs).quiet
  where
    by : (p : Phase) → Quiet p (history base msgs).edits (history base msgs).shutdown → IsBegun p
    by Waiting q = absurd (let none = ap is_some q.1 in both_ways _ none shut)
    by Serving q = tt
    by Closing q = tt
