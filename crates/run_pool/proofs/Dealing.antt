-- How a seat and a pass are dealt out.
use Rattle.std.proofs.Common.{◌≡◌, ℕ, zero, suc, ◌+◌, ◌-◌, ◌*◌, ◌/◌, ◌<◌, ◌≤◌, ◌^◌, false, List, [], ◌∷◌, ◌++◌, Some, ap, sym, ◌∙◌, subst, arith}
use Rattle.std.proofs.Math.Nat.{pow-succ'}
use Rattle.std.proofs.Math.Pow.{pow_mono}
use Rattle.std.proofs.lemmas.List.Sums.{sum_by_push}
use Rattle.srb_check.specs.Jobs.{Known}
use Rattle.run_gate.specs.declared.gate.Gate.{Gate}
use Rattle.run_gate.specs.Shows.{SeatView}
use Rattle.run_queues.specs.Showings.{Places, Showing}
use Rattle.run_pool.specs.declared.path.Place.{Place}
use Rattle.run_pool.specs.Dealt.{IsDealt, IsNew, passes_left, seats_left}
use Rattle.run_pool.proofs.Courses.{EachNew-push}

-- what is left after a half was given, and the half, where there is enough for one half more
halves_of : (j left : ℕ) → 2 ^ (32 + suc j) ≤ left → (2 ^ (32 + j) ≤ left - left / 2) × (2 ^ 32 ≤ left - left / 2) × (2 ^ 32 ≤ left / 2)
halves_of j left enough =
    let x : ℕ = 2 ^ (32 + j) in
    let double : 2 ^ suc (32 + j) ≡ 2 * x = pow-succ' 2 (32 + j) in
    let same : 32 + suc j ≡ suc (32 + j) = omega arith in
    let twice : 2 * x ≤ left = subst (λ (n : ℕ). n ≤ left) (ap (λ (n : ℕ). 2 ^ n) same ∙ double) enough in
    let least : 2 ^ 32 ≤ x = pow_mono {i = 32} {j = 32 + j} (omega arith) in
    (halves_num x left twice, halves_low (2 ^ 32) x left least twice, half_low (2 ^ 32) x left least twice)
  where
    halves_num : (x left : ℕ) → 2 * x ≤ left → x ≤ left - left / 2
    halves_num x left twice = omega arith

    halves_low : (m x left : ℕ) → m ≤ x → 2 * x ≤ left → m ≤ left - left / 2
    halves_low m x left least twice = omega arith

    half_low : (m x left : ℕ) → m ≤ x → 2 * x ≤ left → m ≤ left / 2
    half_low m x left least twice = omega arith

pub halves : (k left : ℕ) → 0 < k → 2 ^ (32 + k) ≤ left → (2 ^ (32 + (k - 1)) ≤ left - left / 2) × (2 ^ 32 ≤ left - left / 2) × (2 ^ 32 ≤ left / 2)
halves zero left some enough = absurd (omega arith)
halves (suc j) left some enough =
    let h = halves_of j left enough in
    let same : suc j - 1 ≡ j = omega arith in
    (subst (λ (n : ℕ). 2 ^ (32 + n) ≤ left - left / 2) (sym same) h.0, h.1, h.2)

-- one count more, and so much less to be left
pub one_less : (count now left : ℕ) → now ≡ left - left / 2 → 2 ^ (32 + ((16 - count) - 1)) ≤ left - left / 2 → 2 ^ (32 + (16 - (count + 1))) ≤ now
one_less count now left is enough =
    let same : (16 - count) - 1 ≡ 16 - (count + 1) = omega arith in
    subst (λ (n : ℕ). 2 ^ (32 + (16 - (count + 1))) ≤ n) (sym is) (subst (λ (n : ℕ). 2 ^ (32 + n) ≤ left - left / 2) same enough)

-- with another number left, a new seat and a new pass stay new
IsNew-part : (job : Known) (gate : Gate) (queue : Places) (s s' : SeatView) (p p' : Showing Known) (m n : ℕ) → IsNew job gate queue s p
    → s' ≡ record s { left = m } → p' ≡ record p { left = n } → 2 ^ 32 ≤ m → 2 ^ 32 ≤ n → IsNew job gate queue s' p'
IsNew-part job gate queue s s' p p' m n new seat pass m_least n_least =
    let m_is : m ≡ s'.left = sym (ap (λ (v : SeatView). v.left) seat) in
    let n_is : n ≡ p'.left = sym (ap (λ (v : Showing Known). v.left) pass) in
    let shows : ℕ → SeatView = λ k. record { gate = gate; drawn = []; saw = false; raised = false; left = k } in
    let shown : ℕ → Showing Known = λ k. record { queue = queue.name; view = Some job; gave = []; got = []; left = k } in
    record {
      seat_is = seat ∙ ap (λ (v : SeatView). let w : SeatView = record v { left = m } in w) new.seat_is ∙ ap shows m_is;
      pass_is = pass ∙ ap (λ (v : Showing Known). let w : Showing Known = record v { left = n } in w) new.pass_is ∙ ap shown n_is;
      seat_left = subst (λ (k : ℕ). 2 ^ 32 ≤ k) m_is m_least;
      pass_left = subst (λ (k : ℕ). 2 ^ 32 ≤ k) n_is n_least;
    }

half_and_rest : (l rest sum half all : ℕ) → rest ≡ l - l / 2 → half ≡ l / 2 → l + sum ≡ all → rest + (sum + half) ≡ all
half_and_rest l rest sum half all r h whole = omega arith

-- one place more is dealt out
pub dealt_one : (job : Known) (gate : Gate) (queue : Places) (places : List Place) (place : Place) (places' : List Place) (s s' : SeatView) (p p' : Showing Known)
    → IsDealt job gate queue places s p
    → s' ≡ record s { left = s.left - s.left / 2 } → p' ≡ record p { left = p.left - p.left / 2 }
    → place.seat ≡ record s { left = s.left / 2 } → place.pass ≡ record p { left = p.left / 2 }
    → 2 ^ 32 ≤ s.left - s.left / 2 → 2 ^ 32 ≤ s.left / 2 → 2 ^ 32 ≤ p.left - p.left / 2 → 2 ^ 32 ≤ p.left / 2
    → places' ≡ places ++ place ∷ []
    → IsDealt job gate queue places' s' p'
dealt_one job gate queue places place places' s s' p p' dealt seat pass given_seat given_pass seat_rest seat_half pass_rest pass_half grown =
    subst (λ (ps : List Place). IsDealt job gate queue ps s' p') (sym grown) (record {
      own = IsNew-part job gate queue s s' p p' (s.left - s.left / 2) (p.left - p.left / 2) dealt.own seat pass seat_rest pass_rest;
      each = EachNew-push job gate queue places place dealt.each
          (IsNew-part job gate queue s place.seat p place.pass (s.left / 2) (p.left / 2) dealt.own given_seat given_pass seat_half pass_half);
      seats = ap (λ (n : ℕ). s'.left + n) (sum_by_push (λ (x : Place). x.seat.left) places place)
          ∙ half_and_rest s.left s'.left (seats_left places) place.seat.left (2 ^ 63) (ap (λ (v : SeatView). v.left) seat) (ap (λ (v : SeatView). v.left) given_seat) dealt.seats;
      passes = ap (λ (n : ℕ). p'.left + n) (sum_by_push (λ (x : Place). x.pass.left) places place)
          ∙ half_and_rest p.left p'.left (passes_left places) place.pass.left (2 ^ 63) (ap (λ (v : Showing Known). v.left) pass) (ap (λ (v : Showing Known). v.left) given_pass) dealt.passes;
    })
