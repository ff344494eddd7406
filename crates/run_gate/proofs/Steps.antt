-- What each call of the table asks for: whatever the gate is when a word changes, the step keeps the rule and tells what it is to tell.
use Rattle.std.proofs.Common.{◌≡◌, ℕ, ◌+◌, ◌-◌, ◌/◌, ◌%◌, ◌^◌, ◌<◌, ◌≤◌, max, true, ◌||◌, ◌==◌, List, [], ◌∷◌, ◌++◌, length, slice_index, sym, refl, ap, subst, arith}
use Rattle.std.specs.List.{All}
use Rattle.atomic_table.specs.Table.{State, Me, Act, keeps, Valid, stepped, carried_after, Allows, Splits, Joins}
use Rattle.atomic_table.proofs.Lists.{set_again}
use Rattle.run_gate.specs.declared.shown.Shown.{Shown}
use Rattle.run_gate.specs.Tickets.{shown, newcomer, spent, AreJustBelow, NoneTwice, part, IsKept, Keeps}
use Rattle.run_gate.proofs.Totals.{total_at}
use Rattle.run_gate.proofs.Moves.{saw_stop, none_twice, all_drawn_lower, part_le, stop_stays, whole_numbers, whole_raised, draws, looks, raises, splits, joins}

module _ (slots id : ℕ) (me : Me ℕ Shown) where
  -- what a step on the word i owes where these are the words
  abbrev Goes : ℕ → (ℕ → ℕ) → (ℕ → Me ℕ Shown → Type 0) → State ℕ Shown → List ℕ → Type 0
  Goes i f then s words =
      (w : Shown) × (a : Act ℕ) × Valid s.homes me.1 a × Keeps (stepped (record { words = words; homes = s.homes; views = s.views }) i (f (slice_index words i)) id me.1 w a)
      × then (slice_index words i) (w, carried_after me.1 a)

  abbrev Draws : ℕ → Me ℕ Shown → Type 0
  Draws found w = (w ≡ (shown (me.0.drawn ++ found ∷ []) me.0.saw me.0.raised (me.0.left - 1), me.1)) × All (λ n. n < found) me.0.drawn

  abbrev after_draw : ℕ → ℕ
  after_draw n = (n + 1) % 2 ^ 64

  pub draw_step : 0 < me.0.left → Allows Keeps slots id me 0 after_draw Draws
  draw_step some_left s k _ at _ =
      let rule = k.3 in
      let left = total_at (λ (u : Shown). u.left) s.views id me.0 at in
      let next : (k.0 + 1) % 2 ^ 64 ≡ k.0 + 1 = omega (arith, rule.shared, left) in
      subst (Goes 0 after_draw Draws s) (sym k.2)
      (shown (me.0.drawn ++ k.0 ∷ []) me.0.saw me.0.raised (me.0.left - 1), keeps, tt, (k.0 + 1, k.1, ap (λ n. n ∷ k.1 ∷ []) next, draws k.0 k.1 s.views rule id me.0 at some_left), (refl, all_drawn_lower k.0 k.1 s.views rule id me.0 at))

  abbrev Looks : ℕ → Me ℕ Shown → Type 0
  Looks found w =
      (w ≡ (shown me.0.drawn (me.0.saw || (found == 1)) me.0.raised me.0.left, me.1)) × ((me.0.saw || me.0.raised) ≡ true → found ≡ 1)
      × (part me.0 ≡ 2 ^ 63 → AreJustBelow (length me.0.drawn) me.0.drawn × ((me.0.saw || (found == 1)) ≡ true → me.0.raised ≡ true))

  pub look_step : Allows Keeps slots id me 1 (λ n. n) Looks
  look_step s k _ at _ =
      let rule = k.3 in
      let kept = looks k.0 k.1 s.views rule id me.0 at in
      subst (Goes 1 (λ n. n) Looks s) (sym k.2) (
        shown me.0.drawn (me.0.saw || (k.1 == 1)) me.0.raised me.0.left,
        keeps,
        tt,
        (k.0, k.1, refl, kept),
        (
          refl,
          stop_stays k.0 k.1 s.views rule id me.0 at,
          λ whole. (whole_numbers k.0 k.1 s.views rule id me.0 at whole, λ is. whole_raised k.0 k.1 s.views rule id me.0 at whole (saw_stop k.0 k.1 s.views rule id me.0 at is)),
        ),
      )

  abbrev Raises : ℕ → Me ℕ Shown → Type 0
  Raises found w = w ≡ (shown me.0.drawn me.0.saw true me.0.left, me.1)

  pub raise_step : 0 < part me.0 → Allows Keeps slots id me 1 (λ n. max n 1) Raises
  raise_step some_part s k _ at _ =
      let rule = k.3 in
      let top : max k.1 1 ≡ 1 = omega (arith, rule.bit) in
      subst (Goes 1 (λ n. max n 1) Raises s) (sym k.2)
      (shown me.0.drawn me.0.saw true me.0.left, keeps, tt, (k.0, 1, ap (λ n. k.0 ∷ n ∷ []) top, raises k.0 k.1 s.views rule id me.0 at some_part), refl)

  abbrev Counts : ℕ → Me ℕ Shown → Type 0
  Counts found w = (w ≡ me) × (part w.0 ≤ 2 ^ 63) × NoneTwice w.0.drawn

  pub count_step : Allows Keeps slots id me 0 (λ n. n) Counts
  count_step s k _ at _ =
      let rule = k.3 in
      subst (Goes 0 (λ n. n) Counts s) (sym k.2)
      (me.0, keeps, tt, (k.0, k.1, refl, subst (IsKept k.0 k.1) (sym (set_again s.views id me.0 at)) rule), (refl, part_le k.0 k.1 s.views rule id me.0 at, none_twice k.0 k.1 s.views rule id me.0 at))

pub split_step : (id : ℕ) (v : Shown) → Splits {S = ℕ} Keeps id v (shown v.drawn v.saw v.raised (v.left - v.left / 2)) (newcomer (v.left / 2))
split_step id v s k at = (k.0, k.1, k.2, splits k.0 k.1 s.views k.3 id v at)

pub join_step : (id : ℕ) (v : Shown) (other : ℕ) (u : Shown) → Joins {S = ℕ} Keeps id v other u (shown (v.drawn ++ u.drawn) (v.saw || u.saw) (v.raised || u.raised) (v.left + u.left)) spent
join_step id v other u s k at apart at' = (k.0, k.1, k.2, joins k.0 k.1 s.views k.3 id v at other u apart at')
