-- Each step of a seat keeps the rule of a gate.
use Rattle.std.proofs.Common.{◌≡◌, ◌≢◌, ◌⊎◌, ℕ, ◌+◌, rules, ◌-◌, ◌*◌, ◌/◌, ◌^◌, ◌<◌, ◌≤◌, Bool, true, false, cond, ◌||◌, ◌==◌, nat_lt, List, [], ◌∷◌, ◌++◌, length, set, sym, refl, ap, ◌∙◌, subst, ⊎_elim, inl, inr, arith, length-append}
use mathlib.Core.Option.{some}
use lib.ListN.{get_elem?}
use Rattle.std.specs.List.{All, sum_by}
use Rattle.std.proofs.lemmas.Bool.{false≢true}
use Rattle.std.proofs.lemmas.Bool.Decides.{nat_tests}
use Rattle.std.proofs.lemmas.List.Sums.{sum_by-cons, sum_by-append, sum_by_push, count_by-le-length}
use Rattle.std.proofs.lemmas.List.Elements.{All-cons}
use Rattle.atomic_table.proofs.Lists.{at_set}
use Rattle.run_gate.specs.declared.shown.Shown.{Shown}
use Rattle.run_gate.specs.Tickets.{shown, newcomer, spent, times, once_below, AreJustBelow, NoneTwice, part, IsKept}
use Rattle.run_gate.proofs.Totals.{each_set, each_push, total_set, total_at, total_two, total_both, alone}

-- 1 for a fact that is so
abbrev pub flag : Bool → ℕ
flag b = cond b 1 0

pub flag_true : (b : Bool) → 0 < flag b → b ≡ true
flag_true true some_there = refl
flag_true false some_there = absurd (omega arith)

pub flag_some : (b : Bool) → b ≡ true → 0 < flag b
flag_some b is = subst (λ c. 0 < flag c) (sym is) (omega arith)

flag_none : (b : Bool) → (b ≡ true → 0 < 0) → flag b ≡ 0
flag_none true never = absurd (omega (arith, never refl))
flag_none false never = refl

flag_either : (a b : Bool) → (flag (a || b) ≤ flag a + flag b) × (flag a + flag b ≤ 2 * flag (a || b))
flag_either true true = (omega arith, omega arith)
flag_either true false = (omega arith, omega arith)
flag_either false true = (omega arith, omega arith)
flag_either false false = (omega arith, omega arith)

flag_le : (b : Bool) → flag b ≤ 1
flag_le true = omega arith
flag_le false = omega arith

or_split : (a b : Bool) → (a || b) ≡ true → (a ≡ true) ⊎ (b ≡ true)
or_split true b is = inl refl
or_split false b is = inr is

pub once_le : (n bound : ℕ) → once_below n bound ≤ 1
once_le n bound = flag_le (nat_lt n bound)

once_lower : (n bound : ℕ) → 0 < once_below n bound → n < bound
once_lower n bound some_there = grind (arith, nat_tests)

pub once_at : (n bound : ℕ) → n < bound → once_below n bound ≡ 1
once_at n bound lower = grind (arith, nat_tests)

pub once_from : (n bound : ℕ) → bound ≤ n → once_below n bound ≡ 0
once_from n bound upper = grind (arith, nat_tests)

once_next : (n bound : ℕ) → once_below n (bound + 1) ≡ once_below n bound + flag (bound == n)
once_next n bound = grind (arith, nat_tests)

found_one : (n : ℕ) → (n == 1) ≡ true → n ≡ 1
found_one n is = grind (arith, nat_tests)

flag_same : (m : ℕ) → flag (m == m) ≡ 1
flag_same m = grind (arith, nat_tests)

all_lower : (bound : ℕ) (numbers : List ℕ) → ((n : ℕ) → times n numbers ≤ once_below n bound) → All (λ n. n < bound) numbers
all_lower bound [] each = search rules
all_lower bound (m ∷ numbers) each =
    let more = λ (n : ℕ). sum_by-cons (λ k. flag (k == n)) m numbers in
    All-cons (λ n. n < bound) m numbers (once_lower m bound (omega (arith, each m, more m, flag_same m))) (all_lower bound numbers (λ n. omega (arith, each n, more n)))

pub parts_all : (ticket stop : ℕ) (seats : List Shown) → IsKept ticket stop seats → sum_by part seats ≡ 2 ^ 63
parts_all ticket stop seats kept = omega (arith, total_both (λ (v : Shown). length v.drawn) (λ (v : Shown). v.left) seats, kept.counted, kept.shared)

module _ (ticket stop : ℕ) (seats : List Shown) (kept : IsKept ticket stop seats) (by : ℕ) (v : Shown) (at : get_elem? seats by ≡ some v) where
  pub none_twice : NoneTwice v.drawn
  none_twice n = omega (arith, total_at (λ (u : Shown). times n u.drawn) seats by v at, kept.drawn n, once_le n ticket)

  pub all_drawn_lower : All (λ n. n < ticket) v.drawn
  all_drawn_lower = all_lower ticket v.drawn (λ n. omega (arith, total_at (λ (u : Shown). times n u.drawn) seats by v at, kept.drawn n))

  pub part_le : part v ≤ 2 ^ 63
  part_le = omega (arith, total_at part seats by v at, parts_all ticket stop seats kept)

  pub stop_stays : (v.saw || v.raised) ≡ true → stop ≡ 1
  stop_stays either_is = ⊎_elim (kept.seen by v at) (λ (is : v.raised ≡ true). kept.raised.1 (omega (arith, flag_some v.raised is, total_at (λ (u : Shown). flag u.raised) seats by v at))) (or_split v.saw v.raised either_is)

  pub saw_stop : (v.saw || (stop == 1)) ≡ true → stop ≡ 1
  saw_stop is = ⊎_elim (kept.seen by v at) (found_one stop) (or_split v.saw (stop == 1) is)

  pub whole_numbers : part v ≡ 2 ^ 63 → AreJustBelow (length v.drawn) v.drawn
  whole_numbers whole n =
      let all : sum_by part seats ≡ part v = parts_all ticket stop seats kept ∙ sym whole in
      let count = alone (λ (u : Shown). length u.drawn) part spent seats by v refl refl (λ j u _ none. omega arith) at all in
      let numbers = alone (λ (u : Shown). times n u.drawn) part spent seats by v refl refl (λ j u _ none. omega (arith, count_by-le-length (λ m. m == n) u.drawn)) at all in
      sym numbers ∙ kept.drawn n ∙ ap (once_below n) (sym kept.counted ∙ count)

  pub whole_raised : part v ≡ 2 ^ 63 → stop ≡ 1 → v.raised ≡ true
  whole_raised whole is =
      let all : sum_by part seats ≡ part v = parts_all ticket stop seats kept ∙ sym whole in
      let raised = alone (λ (u : Shown). flag u.raised) part spent seats by v refl refl (λ j u there none. flag_none u.raised (λ r. omega (arith, kept.cause j u there r))) at all in
      flag_true v.raised (omega (arith, raised, kept.raised.0 is))

  pub draws : 0 < v.left → IsKept (ticket + 1) stop (set seats by (shown (v.drawn ++ ticket ∷ []) v.saw v.raised (v.left - 1)))
  draws some_left =
      let w = shown (v.drawn ++ ticket ∷ []) v.saw v.raised (v.left - 1) in
      let raised = total_set (λ (u : Shown). flag u.raised) seats by v w at in
      let count = length-append v.drawn (ticket ∷ []) in record {
        drawn = λ n. omega (arith, total_set (λ (u : Shown). times n u.drawn) seats by v w at, kept.drawn n, sum_by_push (λ k. flag (k == n)) v.drawn ticket, once_next n ticket);
        counted = omega (arith, total_set (λ (u : Shown). length u.drawn) seats by v w at, kept.counted, count);
        shared = omega (arith, total_set (λ (u : Shown). u.left) seats by v w at, kept.shared);
        bit = kept.bit;
        raised = ((λ is. omega (arith, raised, kept.raised.0 is)), λ some_raised. kept.raised.1 (omega (arith, raised)));
        seen = each_set (λ (u : Shown). u.saw ≡ true → stop ≡ 1) seats by w (kept.seen by v at) kept.seen;
        cause = each_set (λ (u : Shown). u.raised ≡ true → 0 < part u) seats by w (λ _. omega (arith, count)) kept.cause;
      }

  -- the stop word was read, and the seat notes it
  pub looks : IsKept ticket stop (set seats by (shown v.drawn (v.saw || (stop == 1)) v.raised v.left))
  looks =
      let w = shown v.drawn (v.saw || (stop == 1)) v.raised v.left in
      let raised = total_set (λ (u : Shown). flag u.raised) seats by v w at in record {
        drawn = λ n. omega (arith, total_set (λ (u : Shown). times n u.drawn) seats by v w at, kept.drawn n);
        counted = omega (arith, total_set (λ (u : Shown). length u.drawn) seats by v w at, kept.counted);
        shared = omega (arith, total_set (λ (u : Shown). u.left) seats by v w at, kept.shared);
        bit = kept.bit;
        raised = ((λ is. omega (arith, raised, kept.raised.0 is)), λ some_raised. kept.raised.1 (omega (arith, raised)));
        seen = each_set (λ (u : Shown). u.saw ≡ true → stop ≡ 1) seats by w saw_stop kept.seen;
        cause = each_set (λ (u : Shown). u.raised ≡ true → 0 < part u) seats by w (kept.cause by v at) kept.cause;
      }

  pub raises : 0 < part v → IsKept ticket 1 (set seats by (shown v.drawn v.saw true v.left))
  raises some_part =
      let w = shown v.drawn v.saw true v.left in
      let raised = total_set (λ (u : Shown). flag u.raised) seats by v w at in record {
        drawn = λ n. omega (arith, total_set (λ (u : Shown). times n u.drawn) seats by v w at, kept.drawn n);
        counted = omega (arith, total_set (λ (u : Shown). length u.drawn) seats by v w at, kept.counted);
        shared = omega (arith, total_set (λ (u : Shown). u.left) seats by v w at, kept.shared);
        bit = omega arith;
        raised = ((λ _. omega (arith, raised, total_at (λ (u : Shown). flag u.raised) seats by v at)), λ _. refl);
        seen = λ _ _ _ _. refl;
        cause = each_set (λ (u : Shown). u.raised ≡ true → 0 < part u) seats by w (λ _. some_part) kept.cause;
      }

  pub splits : IsKept ticket stop (set seats by (shown v.drawn v.saw v.raised (v.left - v.left / 2)) ++ newcomer (v.left / 2) ∷ [])
  splits =
      let w = shown v.drawn v.saw v.raised (v.left - v.left / 2) in
      let new = newcomer (v.left / 2) in
      let ones = set seats by w in
      let raised = total_set (λ (u : Shown). flag u.raised) seats by v w at in
      let raised_more = sum_by_push (λ (u : Shown). flag u.raised) ones new in
      let cause : v.raised ≡ true → 0 < part w = λ is. omega (arith, kept.cause by v at is) in record {
        drawn = λ n. omega (arith, total_set (λ (u : Shown). times n u.drawn) seats by v w at, sum_by_push (λ (u : Shown). times n u.drawn) ones new, kept.drawn n);
        counted = omega (arith, total_set (λ (u : Shown). length u.drawn) seats by v w at, sum_by_push (λ (u : Shown). length u.drawn) ones new, kept.counted);
        shared = omega (arith, total_set (λ (u : Shown). u.left) seats by v w at, sum_by_push (λ (u : Shown). u.left) ones new, kept.shared);
        bit = kept.bit;
        raised = ((λ is. omega (arith, raised, raised_more, kept.raised.0 is)), λ some_raised. kept.raised.1 (omega (arith, raised, raised_more)));
        seen = each_push (λ (u : Shown). u.saw ≡ true → stop ≡ 1) ones new (λ is. absurd (false≢true is)) (each_set (λ (u : Shown). u.saw ≡ true → stop ≡ 1) seats by w (kept.seen by v at) kept.seen);
        cause = each_push (λ (u : Shown). u.raised ≡ true → 0 < part u) ones new (λ is. absurd (false≢true is)) (each_set (λ (u : Shown). u.raised ≡ true → 0 < part u) seats by w cause kept.cause);
      }

  -- another seat is taken in
  module _ (other : ℕ) (u : Shown) (apart : other ≢ by) where
    abbrev both : Shown
    both = shown (v.drawn ++ u.drawn) (v.saw || u.saw) (v.raised || u.raised) (v.left + u.left)

    pub joins : get_elem? (set seats by both) other ≡ some u → IsKept ticket stop (set (set seats by both) other spent)
    joins at' =
        let there : get_elem? seats other ≡ some u = ⊎_elim (λ (same : (other ≡ by) × (both ≡ u)). absurd (apart same.0)) (λ (t : (other ≢ by) × (get_elem? seats other ≡ some u)). t.1) (at_set seats by other both u at') in
        let ones = set seats by both in
        let raised = total_set (λ (s : Shown). flag s.raised) seats by v both at in
        let raised_more = total_set (λ (s : Shown). flag s.raised) ones other u spent at' in
        let flags = flag_either v.raised u.raised in
        let two = total_two (λ (s : Shown). flag s.raised) spent seats by other v u refl (λ e. apart (sym e)) at there in
        let count = length-append v.drawn u.drawn in
        let seen : (v.saw || u.saw) ≡ true → stop ≡ 1 = λ is. ⊎_elim (kept.seen by v at) (kept.seen other u there) (or_split v.saw u.saw is) in
        let cause : (v.raised || u.raised) ≡ true → 0 < part both = λ is. ⊎_elim (λ a. omega (arith, count, kept.cause by v at a)) (λ b. omega (arith, count, kept.cause other u there b)) (or_split v.raised u.raised is) in record {
          drawn = λ n. omega (arith, total_set (λ (s : Shown). times n s.drawn) seats by v both at, total_set (λ (s : Shown). times n s.drawn) ones other u spent at', sum_by-append (λ k. flag (k == n)) v.drawn u.drawn, kept.drawn n);
          counted = omega (arith, total_set (λ (s : Shown). length s.drawn) seats by v both at, total_set (λ (s : Shown). length s.drawn) ones other u spent at', count, kept.counted);
          shared = omega (arith, total_set (λ (s : Shown). s.left) seats by v both at, total_set (λ (s : Shown). s.left) ones other u spent at', kept.shared);
          bit = kept.bit;
          raised = ((λ is. omega (arith, raised, raised_more, two, flags.0, flags.1, kept.raised.0 is)), λ some_raised. kept.raised.1 (omega (arith, raised, raised_more, two, flags.0, flags.1)));
          seen = each_set (λ (s : Shown). s.saw ≡ true → stop ≡ 1) ones other spent (λ is. absurd (false≢true is)) (each_set (λ (s : Shown). s.saw ≡ true → stop ≡ 1) seats by both seen kept.seen);
          cause = each_set (λ (s : Shown). s.raised ≡ true → 0 < part s) ones other spent (λ is. absurd (false≢true is)) (each_set (λ (s : Shown). s.raised ≡ true → 0 < part s) seats by both cause kept.cause);
        }
