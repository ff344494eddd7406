-- A right that at most one pass has, where passes change, come and go.
use Rattle.std.proofs.Common.{◌≡◌, ◌≢◌, ⊎_elim, ℕ, zero, suc, Bool, true, false, true≢false, List, [], ◌∷◌, ◌++◌, length, set, refl, sym, ap, ◌∙◌, subst}
use mathlib.Core.Option.{some, some-injective, some-ne-none}
use lib.ListN.{get_elem?}
use Rattle.crossbeam_queue.proofs.Lists.{at_set, at_snoc}
use Rattle.run_queues.specs.declared.heard.Mail.{Mail}
use Rattle.run_queues.specs.Mails.{HasOnly}

-- what stands in a longer list and not in the shorter one stands at the end
at_end : (l : List Mail) (a b : Mail) (j : ℕ) → (get_elem? l j ≡ some b → ⊥) → get_elem? (l ++ a ∷ []) j ≡ some b → j ≡ length l
at_end [] a b zero n e = refl
at_end [] a b (suc j) n e = absurd (some-ne-none b (sym e))
at_end (x ∷ xs) a b zero n e = absurd (n e)
at_end (x ∷ xs) a b (suc j) n e = ap suc (at_end xs a b j n e)

module _ {X : Type 0} (has : Mail → Bool) (shows : Mail → X) where
  abbrev HasNone : List Mail → Type 0
  HasNone views = (port : ℕ) (v : Mail) → get_elem? views port ≡ some v → has v ≡ true → ⊥

  -- the pass that has the right shows something else
  pub only_changes : (views : List Mail) (place port : ℕ) (x y : X) (v w : Mail) → HasOnly has shows views place x → get_elem? views port ≡ some v → has v ≡ true → shows w ≡ y → HasOnly has shows (set views port w) port y
  only_changes views place port x y v w only at may is j u e may_u = ⊎_elim (λ (t : (j ≡ port) × (w ≡ u)). (t.0, ap shows (sym t.1) ∙ is))
      (λ (t : (j ≢ port) × (get_elem? views j ≡ some u)). absurd (t.0 ((only j u t.1 may_u).0 ∙ sym (only port v at may).0))) (at_set views port j w u e)

  -- a pass changes, and keeps or loses the right
  pub only_stays : (views : List Mail) (place port : ℕ) (x : X) (v w : Mail) → HasOnly has shows views place x → get_elem? views port ≡ some v → (has w ≡ true → (has v ≡ true) × (shows w ≡ shows v)) → HasOnly has shows (set views port w) place x
  only_stays views place port x v w only at same j u e may_u = ⊎_elim
      (λ (t : (j ≡ port) × (w ≡ u)). let s = same (ap has t.1 ∙ may_u) in let o = only port v at s.0 in (t.0 ∙ o.0, ap shows (sym t.1) ∙ (s.1 ∙ o.1)))
      (λ (t : (j ≢ port) × (get_elem? views j ≡ some u)). only j u t.1 may_u) (at_set views port j w u e)

  -- a pass without the right joins
  pub only_beside : (views : List Mail) (place : ℕ) (x : X) (w : Mail) → HasOnly has shows views place x → has w ≡ false → HasOnly has shows (views ++ w ∷ []) place x
  only_beside views place x w only without j u e may_u = ⊎_elim (λ (t : get_elem? views j ≡ some u). only j u t may_u)
      (λ (t : w ≡ u). absurd (true≢false (sym may_u ∙ (ap has (sym t) ∙ without)))) (at_snoc views w u j e)

  -- the pass that has the right loses it
  loses : (views : List Mail) (place port : ℕ) (x : X) (v w : Mail) → HasOnly has shows views place x → get_elem? views port ≡ some v → has v ≡ true → has w ≡ false → HasNone (set views port w)
  loses views place port x v w only at may without j u e may_u = ⊎_elim (λ (t : (j ≡ port) × (w ≡ u)). absurd (true≢false (sym may_u ∙ (ap has (sym t.1) ∙ without))))
      (λ (t : (j ≢ port) × (get_elem? views j ≡ some u)). absurd (t.0 ((only j u t.1 may_u).0 ∙ sym (only port v at may).0))) (at_set views port j w u e)

  -- the right goes to a new pass
  pub only_goes : (views : List Mail) (place port : ℕ) (x : X) (v l r : Mail) → HasOnly has shows views place x → get_elem? views port ≡ some v → has v ≡ true → has l ≡ false → shows r ≡ shows v
      → HasOnly has shows (set views port l ++ r ∷ []) (length (set views port l)) x
  only_goes views place port x v l r only at may without is j u e may_u = let vs : List Mail = set views port l in let none : HasNone vs = loses views place port x v l only at may without in
      ⊎_elim (λ (t : get_elem? vs j ≡ some u). absurd (none j u t may_u))
      (λ (t : r ≡ u). (at_end vs r u j (λ there. none j u there may_u) e, ap shows (sym t) ∙ (is ∙ (only port v at may).1))) (at_snoc vs r u j e)

  -- the right goes from one pass to another
  pub only_moves : (views : List Mail) (place port other : ℕ) (x : X) (u l w : Mail) → HasOnly has shows views place x → get_elem? views other ≡ some u → has u ≡ true → has l ≡ false → shows w ≡ shows u
      → HasOnly has shows (set (set views other l) port w) port x
  only_moves views place port other x u l w only at may without is j y e may_y = let vs : List Mail = set views other l in let none : HasNone vs = loses views place other x u l only at may without in
      ⊎_elim (λ (t : (j ≡ port) × (w ≡ y)). (t.0, ap shows (sym t.1) ∙ (is ∙ (only other u at may).1)))
      (λ (t : (j ≢ port) × (get_elem? vs j ≡ some y)). absurd (none j y t.1 may_y)) (at_set vs port j w y e)
