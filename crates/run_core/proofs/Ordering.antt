-- The order of the steps of a run: what the record says of the steps before a step is what the machine knows there.
use Rattle.std.proofs.Common.{◌≡◌, ◌≢◌, ℕ, Bool, true, false, not, ◌||◌, List, [], ◌∷◌, ◌++◌, refl, sym, ap, ap₂, ◌∙◌, subst, inl, inr, ⊎_elim, arith}
use Rattle.std.specs.Prelude.{is_some, ◌⊎◌, ◌↔◌, bytes_eq}
use Rattle.std.proofs.lemmas.Bool.{and_parts, not-true, both_ways, or_cases, or_left, or_right}
use Rattle.std.proofs.lemmas.Bool.Decides.{nat_tests}
use Rattle.lsp_docs.specs.Paths.{Path, has, without_path}
use Rattle.lsp_docs.specs.Projects.{Project}
use Rattle.lsp_docs.specs.Uris.{is_empty}
use Rattle.lsp_docs.proofs.PathLemmas.{same_path, self_path, other_path, has-with_path, has-without_path}
use Rattle.run_watch.specs.declared.step.Step.{Step}
use Rattle.run_watch.specs.declared.step.Step.TheVariants.{Take, Look, Build, Work, Dropped, Idle}
use Rattle.run_watch.specs.declared.inp.Inp.TheVariants.{Msg, End}
use Rattle.run_core.specs.Language.{Language}
use Rattle.run_core.specs.Sessions.{Session, Told, Nothing, Failed, Logged, Began, Edited, Kept, Ended, told, after_told}
use Rattle.run_core.specs.Histories.{History, no_history, heard}
use Rattle.run_core.specs.Machine.{State, opening, project_of, looked, Permits, after_taken_edit, after_message, next}
use Rattle.run_core.specs.Runs.{Leads, state_after, Run}
use Rattle.run_core.specs.Order.{IsEditOf, NoWorkOn, IsOwedBy, IsPatient, HasLooked, HasEnded, IsBusy, IsShutdown, IsReplyOwedBy, CountsAsLooked, HasNoBuild, IsUpset, IsStaleBy, IsOwnStep}
use Rattle.run_core.proofs.Held.{may_work_parts}

-- ---- the steps before a step

pub leads_before : (language : Language) (s : State) (xs ys : List Step) → Leads language s (xs ++ ys) → Leads language s xs
leads_before language s [] ys run = tt
leads_before language s (x ∷ xs) ys run = (run.0, leads_before language (next language s x) xs ys run.1)

pub permitted_at : (language : Language) (s : State) (xs : List Step) (y : Step) (ys : List Step) → Leads language s (xs ++ y ∷ ys) →
    Permits language (state_after language s xs) y
permitted_at language s [] y ys run = run.0
permitted_at language s (x ∷ xs) y ys run = permitted_at language (next language s x) xs y ys run.1

-- ---- owed files

owed_edit : (s : State) (k : Bool) (g f : Path) → has f (after_taken_edit s k g).owed ≡ (bytes_eq f g || has f s.owed)
owed_edit s true g f = has-with_path f g s.owed
owed_edit s false g f = has-with_path f g s.owed

-- after a message a file is owed where it was or the message is an edit of it
owed_take : (language : Language) (s : State) (t : Told) (f : Path) →
    (has f (after_message language s t).owed ≡ true) ↔ (IsEditOf f t ⊎ (has f s.owed ≡ true))
owed_take language s (Edited e opened) f =
    let o = owed_edit s (language.keeps (project_of s) e) e.path f in (
      λ p. ⊎_elim (λ q. inl (same_path f e.path q)) (λ q. inr q) (or_cases _ _ (sym o ∙ p)),
      λ p. o ∙ ⊎_elim (λ q. or_left _ _ (subst (λ g. bytes_eq f g ≡ true) q (self_path f))) (λ q. or_right (bytes_eq f e.path) _ q) p,
    )
owed_take language s Nothing f = (λ p. inr p, λ p. ⊎_elim (λ q. absurd q) (λ q. q) p)
owed_take language s (Failed id code) f = (λ p. inr p, λ p. ⊎_elim (λ q. absurd q) (λ q. q) p)
owed_take language s (Logged method reason) f = (λ p. inr p, λ p. ⊎_elim (λ q. absurd q) (λ q. q) p)
owed_take language s (Began id agreed) f = (λ p. inr p, λ p. ⊎_elim (λ q. absurd q) (λ q. q) p)
owed_take language s (Kept g) f = (λ p. inr p, λ p. ⊎_elim (λ q. absurd q) (λ q. q) p)
owed_take language s (Ended id) f = (λ p. inr p, λ p. ⊎_elim (λ q. absurd q) (λ q. q) p)

owed_work : (f g : Path) (owed : List Path) → (has f (without_path g owed) ≡ true) ↔ ((f ≢ g) × (has f owed ≡ true))
owed_work f g owed = (
  λ p.
      let q = and_parts (not (bytes_eq f g)) (has f owed) (sym (has-without_path f g owed) ∙ p) in
      (λ e. both_ways (bytes_eq f g) (not-true _ q.0) (subst (λ x. bytes_eq f x ≡ true) e (self_path f)), q.1),
  λ p.
      let o = other_path f g p.0 in let h = p.1 in has-without_path f g owed ∙ grind (arith, nat_tests, o, h),
)

-- What is owed after some steps was edited in them and not worked on since, or was owed before and not worked on.
owed_by : (language : Language) (h : History) (s : State) (xs : List Step) (f : Path) → s.session ≡ h.session → Leads language s xs →
    (has f (state_after language s xs).owed ≡ true) ↔ (IsOwedBy h f xs ⊎ ((has f s.owed ≡ true) × NoWorkOn f xs))
owed_by language h s [] f same run = (λ p. inr (p, tt), λ p. ⊎_elim (λ q. absurd q) (λ q. q.0) p)
owed_by language h s (Take (Msg m) ∷ xs) f same run =
    let here : told s.session m ≡ told h.session m = ap (λ x. told x m) same in
    let ih = owed_by language (heard h m) (next language s (Take (Msg m))) xs f (ap₂ after_told same here) run.1 in
    let one = owed_take language s (told s.session m) f in (
      λ p. ⊎_elim
          (λ q. inl (inr q))
          (λ q. ⊎_elim (λ r. inl (inl (subst (IsEditOf f) here r, q.1))) (λ r. inr (r, q.1)) (one.0 q.0))
          (ih.0 p),
      λ p. ih.1 (⊎_elim
          (λ q. ⊎_elim (λ r. inr (one.1 (inl (subst (IsEditOf f) (sym here) r.0)), r.1)) (λ r. inl r) q)
          (λ q. inr (one.1 (inr q.0), q.1))
          p),
    )
owed_by language h s (Take (End cause) ∷ xs) f same run = owed_by language h (next language s (Take (End cause))) xs f same run.1
owed_by language h s (Look ∷ xs) f same run = owed_by language h (next language s Look) xs f same run.1
owed_by language h s (Build ∷ xs) f same run = owed_by language h (next language s Build) xs f same run.1
owed_by language h s (Work g n list shown ∷ xs) f same run =
    let ih = owed_by language h (next language s (Work g n list shown)) xs f same run.1 in
    let one = owed_work f g s.owed in (
      λ p. ⊎_elim (λ q. inl q) (λ q. let r = one.0 q.0 in inr (r.1, (r.0, q.1))) (ih.0 p),
      λ p. ih.1 (⊎_elim (λ q. inl q) (λ q. inr (one.1 (q.1.0, q.0), q.1.1)) p),
    )
owed_by language h s (Dropped g ∷ xs) f same run = owed_by language h s xs f same run.1
owed_by language h s (Idle ∷ xs) f same run = owed_by language h (next language s Idle) xs f same run.1

owed_here : (language : Language) (base : Project) (xs : List Step) (f : Path) → Run language base xs →
    (has f (state_after language (opening base) xs).owed ≡ true) ↔ IsOwedBy (no_history base) f xs
owed_here language base xs f run =
    let both = owed_by language (no_history base) (opening base) xs f refl run in
    (λ p. ⊎_elim (λ q. q) (λ q. absurd (both_ways false refl q.0)) (both.0 p), λ p. both.1 (inl p))

some_has : (f : Path) (gs : List Path) → has f gs ≡ true → is_empty gs ≡ false
some_has f [] p = absurd (both_ways false refl p)
some_has f (g ∷ gs) p = refl

-- An owed file is worked on before any other.
pub owed_first : (language : Language) (base : Project) (xs : List Step) (g : Path) (n : ℕ) (list : _) (shown : Bool) (ys : List Step) → Run language base (xs ++ Work g n list shown ∷ ys) →
    (f : Path) → IsOwedBy (no_history base) f xs → IsOwedBy (no_history base) g xs
owed_first language base xs g n list shown ys run f owed =
    let before = leads_before language (opening base) xs _ run in
    let may = permitted_at language (opening base) xs (Work g n list shown) ys run in
    let ready = may_work_parts (state_after language (opening base) xs) g may.ready in
    let some = some_has f _ ((owed_here language base xs f before).1 owed) in
    (owed_here language base xs g before).0 (⊎_elim (λ p. p) (λ p. absurd (both_ways _ some p)) (or_cases _ _ ready.first))

-- ---- looks

seen_by : (language : Language) (s : State) (xs : List Step) → (state_after language s xs).seen ≡ true → HasLooked xs ⊎ ((s.seen ≡ true) × IsPatient xs)
seen_by language s [] p = inr (p, tt)
seen_by language s (Take (Msg m) ∷ xs) p =
    ⊎_elim (λ q. inl q) (λ q. absurd (both_ways false refl q.0)) (seen_by language (next language s (Take (Msg m))) xs p)
seen_by language s (Take (End cause) ∷ xs) p =
    ⊎_elim (λ q. inl q) (λ q. absurd (both_ways false refl q.0)) (seen_by language (next language s (Take (End cause))) xs p)
seen_by language s (Look ∷ xs) p =
    ⊎_elim (λ q. inl (inr q)) (λ q. inl (inl q.1)) (seen_by language (next language s Look) xs p)
seen_by language s (Build ∷ xs) p = seen_by language (next language s Build) xs p
seen_by language s (Work f n list shown ∷ xs) p =
    ⊎_elim (λ q. inl q) (λ q. absurd (both_ways false refl q.0)) (seen_by language (next language s (Work f n list shown)) xs p)
seen_by language s (Dropped f ∷ xs) p = seen_by language s xs p
seen_by language s (Idle ∷ xs) p = seen_by language (next language s Idle) xs p

edit_ended : (s : State) (k : Bool) (f : Path) → (after_taken_edit s k f).ended ≡ s.ended
edit_ended s true f = refl
edit_ended s false f = refl

message_ended : (language : Language) (s : State) (t : Told) → (after_message language s t).ended ≡ s.ended
message_ended language s (Edited e opened) = edit_ended s (language.keeps (project_of s) e) e.path
message_ended language s Nothing = refl
message_ended language s (Failed id code) = refl
message_ended language s (Logged method reason) = refl
message_ended language s (Began id agreed) = refl
message_ended language s (Kept f) = refl
message_ended language s (Ended id) = refl

ended_by : (language : Language) (s : State) (xs : List Step) → is_some (state_after language s xs).ended ≡ true → HasEnded xs ⊎ (is_some s.ended ≡ true)
ended_by language s [] p = inr p
ended_by language s (Take (Msg m) ∷ xs) p =
    ⊎_elim (λ q. inl q) (λ q. inr (subst (λ o. is_some o ≡ true) (message_ended language s (told s.session m)) q)) (ended_by language (next language s (Take (Msg m))) xs p)
ended_by language s (Take (End cause) ∷ xs) p = inl tt
ended_by language s (Look ∷ xs) p = ended_by language (next language s Look) xs p
ended_by language s (Build ∷ xs) p = ended_by language (next language s Build) xs p
ended_by language s (Work f n list shown ∷ xs) p = ended_by language (next language s (Work f n list shown)) xs p
ended_by language s (Dropped f ∷ xs) p = ended_by language s xs p
ended_by language s (Idle ∷ xs) p = ended_by language (next language s Idle) xs p

edit_owing : (s : State) (k : Bool) (f : Path) → (after_taken_edit s k f).owing ≡ s.owing
edit_owing s true f = refl
edit_owing s false f = refl

message_owing : (language : Language) (s : State) (t : Told) → is_some (after_message language s t).owing ≡ true → IsShutdown t ⊎ (is_some s.owing ≡ true)
message_owing language s (Edited e opened) p = inr (subst (λ o. is_some o ≡ true) (edit_owing s (language.keeps (project_of s) e) e.path) p)
message_owing language s (Ended id) p = inl tt
message_owing language s Nothing p = inr p
message_owing language s (Failed id code) p = inr p
message_owing language s (Logged method reason) p = inr p
message_owing language s (Began id agreed) p = inr p
message_owing language s (Kept f) p = inr p

owing_by : (language : Language) (h : History) (s : State) (xs : List Step) → s.session ≡ h.session →
    is_some (state_after language s xs).owing ≡ true → IsReplyOwedBy h xs ⊎ ((is_some s.owing ≡ true) × IsBusy xs)
owing_by language h s [] same p = inr (p, tt)
owing_by language h s (Take (Msg m) ∷ xs) same p =
    let here : told s.session m ≡ told h.session m = ap (λ x. told x m) same in
    ⊎_elim (λ q. inl (inr q))
    (λ q. ⊎_elim (λ r. inl (inl (subst IsShutdown here r, q.1))) (λ r. inr (r, q.1)) (message_owing language s (told s.session m) q.0))
    (owing_by language (heard h m) (next language s (Take (Msg m))) xs (ap₂ after_told same here) p)
owing_by language h s (Take (End cause) ∷ xs) same p = owing_by language h (next language s (Take (End cause))) xs same p
owing_by language h s (Look ∷ xs) same p = owing_by language h (next language s Look) xs same p
owing_by language h s (Build ∷ xs) same p = owing_by language h (next language s Build) xs same p
owing_by language h s (Work f n list shown ∷ xs) same p = owing_by language h (next language s (Work f n list shown)) xs same p
owing_by language h s (Dropped f ∷ xs) same p = owing_by language h s xs same p
owing_by language h s (Idle ∷ xs) same p =
    ⊎_elim (λ q. inl q) (λ q. absurd (both_ways false refl q.0)) (owing_by language h (next language s Idle) xs same p)

looked_by : (language : Language) (base : Project) (xs : List Step) → looked (state_after language (opening base) xs) ≡ true → CountsAsLooked (no_history base) xs
looked_by language base xs p =
    let s = state_after language (opening base) xs in
    ⊎_elim
    (λ q. ⊎_elim
    (λ r. ⊎_elim (λ t. inl t) (λ t. absurd (both_ways false refl t.0)) (seen_by language (opening base) xs r))
    (λ r. ⊎_elim (λ t. inr (inl t)) (λ t. absurd (both_ways false refl t)) (ended_by language (opening base) xs r))
    (or_cases s.seen (is_some s.ended) q))
    (λ q. ⊎_elim (λ t. inr (inr t)) (λ t. absurd (both_ways false refl t.0)) (owing_by language (no_history base) (opening base) xs refl q))
    (or_cases (s.seen || is_some s.ended) (is_some s.owing) p)

-- Nothing is worked on, built or found done without a look.
pub looks_first : (language : Language) (base : Project) (xs : List Step) (y : Step) (ys : List Step) → Run language base (xs ++ y ∷ ys) →
    IsOwnStep y → CountsAsLooked (no_history base) xs
looks_first language base xs y ys run own = looked_by language base xs (by_step y own (permitted_at language (opening base) xs y ys run))
  where
    by_step : (y : Step) → IsOwnStep y → Permits language (state_after language (opening base) xs) y → looked (state_after language (opening base) xs) ≡ true
    by_step (Work f n list shown) own may = (may_work_parts (state_after language (opening base) xs) f may.ready).looked
    by_step Build own may = (and_parts _ _ may).0
    by_step Idle own may = (and_parts _ _ may).0
    by_step (Take inp) own may = absurd own
    by_step Look own may = absurd own
    by_step (Dropped f) own may = absurd own

-- ---- stale tables

edit_stale : (s : State) (k : Bool) (f : Path) → ((after_taken_edit s k f).stale ≡ true) ↔ ((k ≡ false) ⊎ (s.stale ≡ true))
edit_stale s true f = (λ p. inr p, λ p. ⊎_elim (λ q. absurd cc) (λ q. q) p)
edit_stale s false f = (λ p. inl refl, λ p. refl)

message_stale : (language : Language) (h : History) (s : State) (t : Told) → s.session ≡ h.session →
    ((after_message language s t).stale ≡ true) ↔ (IsUpset language h t ⊎ (s.stale ≡ true))
message_stale language h s (Edited e opened) same =
    subst (λ k. ((after_taken_edit s (language.keeps (project_of s) e) e.path).stale ≡ true) ↔ ((k ≡ false) ⊎ (s.stale ≡ true)))
    (ap (λ (x : Session). language.keeps x.documents.project e) same)
    (edit_stale s (language.keeps (project_of s) e) e.path)
message_stale language h s (Began id agreed) same = (λ p. inl tt, λ p. refl)
message_stale language h s Nothing same = (λ p. inr p, λ p. ⊎_elim (λ q. absurd q) (λ q. q) p)
message_stale language h s (Failed id code) same = (λ p. inr p, λ p. ⊎_elim (λ q. absurd q) (λ q. q) p)
message_stale language h s (Logged method reason) same = (λ p. inr p, λ p. ⊎_elim (λ q. absurd q) (λ q. q) p)
message_stale language h s (Kept f) same = (λ p. inr p, λ p. ⊎_elim (λ q. absurd q) (λ q. q) p)
message_stale language h s (Ended id) same = (λ p. inr p, λ p. ⊎_elim (λ q. absurd q) (λ q. q) p)

stale_by : (language : Language) (h : History) (s : State) (xs : List Step) → s.session ≡ h.session →
    ((state_after language s xs).stale ≡ true) ↔ (IsStaleBy language h xs ⊎ ((s.stale ≡ true) × HasNoBuild xs))
stale_by language h s [] same = (λ p. inr (p, tt), λ p. ⊎_elim (λ q. absurd q) (λ q. q.0) p)
stale_by language h s (Take (Msg m) ∷ xs) same =
    let here : told s.session m ≡ told h.session m = ap (λ x. told x m) same in
    let ih = stale_by language (heard h m) (next language s (Take (Msg m))) xs (ap₂ after_told same here) in
    let one = message_stale language h s (told s.session m) same in (
      λ p. ⊎_elim
          (λ q. inl (inr q))
          (λ q. ⊎_elim (λ r. inl (inl (subst (IsUpset language h) here r, q.1))) (λ r. inr (r, q.1)) (one.0 q.0))
          (ih.0 p),
      λ p. ih.1 (⊎_elim
          (λ q. ⊎_elim (λ r. inr (one.1 (inl (subst (IsUpset language h) (sym here) r.0)), r.1)) (λ r. inl r) q)
          (λ q. inr (one.1 (inr q.0), q.1))
          p),
    )
stale_by language h s (Take (End cause) ∷ xs) same = stale_by language h (next language s (Take (End cause))) xs same
stale_by language h s (Look ∷ xs) same = stale_by language h (next language s Look) xs same
stale_by language h s (Build ∷ xs) same =
    let ih = stale_by language h (next language s Build) xs same in (
      λ p. ⊎_elim (λ q. inl q) (λ q. absurd (both_ways false refl q.0)) (ih.0 p),
      λ p. ih.1 (⊎_elim (λ q. inl q) (λ q. absurd q.1) p),
    )
stale_by language h s (Work f n list shown ∷ xs) same = stale_by language h (next language s (Work f n list shown)) xs same
stale_by language h s (Dropped f ∷ xs) same = stale_by language h s xs same
stale_by language h s (Idle ∷ xs) same = stale_by language h (next language s Idle) xs same

stale_here : (language : Language) (base : Project) (xs : List Step) →
    ((state_after language (opening base) xs).stale ≡ true) ↔ IsStaleBy language (no_history base) xs
stale_here language base xs =
    let both = stale_by language (no_history base) (opening base) xs refl in
    (λ p. ⊎_elim (λ q. q) (λ q. absurd (both_ways false refl q.0)) (both.0 p), λ p. both.1 (inl p))

-- A build comes only where the symbol table is stale.
pub builds_where_stale : (language : Language) (base : Project) (xs ys : List Step) → Run language base (xs ++ Build ∷ ys) →
    IsStaleBy language (no_history base) xs
builds_where_stale language base xs ys run =
    (stale_here language base xs).0 (and_parts _ _ (permitted_at language (opening base) xs Build ys run)).1

-- Nothing is worked on where it is.
pub works_where_built : (language : Language) (base : Project) (xs : List Step) (g : Path) (n : ℕ) (list : _) (shown : Bool) (ys : List Step) →
    Run language base (xs ++ Work g n list shown ∷ ys) → IsStaleBy language (no_history base) xs → ⊥
works_where_built language base xs g n list shown ys run stale =
    let may = permitted_at language (opening base) xs (Work g n list shown) ys run in
    let ready = may_work_parts (state_after language (opening base) xs) g may.ready in
    both_ways _ ready.built ((stale_here language base xs).1 stale)
