-- What is true of a gate between any two steps of its seats: how the ticket word, the stop word and what the seats show stand together.
use Rattle.std.specs.Prelude.{◌≡◌, ℕ, ◌+◌, ◌^◌, ◌<◌, ◌≤◌, ◌↔◌, Bool, true, false, List, [], ◌∷◌, length, if◌then◌else◌, nat_lt, ◌==◌}
use Rattle.std.specs.List.{sum_by, count_by}
use mathlib.Core.Option.{some}
use lib.ListN.{get_elem?}
use Rattle.atomic_table.specs.Table.{State}
use Rattle.run_gate.specs.declared.shown.Shown.{Shown}

abbrev pub shown : List ℕ → Bool → Bool → ℕ → Shown
shown drawn saw raised left = record { drawn = drawn; saw = saw; raised = raised; left = left }

-- a seat that did nothing yet
abbrev pub newcomer : ℕ → Shown
newcomer left = shown [] false false left

-- what a seat shows once another took it in: nothing, so that the rule asks nothing of it
abbrev pub spent : Shown
spent = newcomer 0

-- how often a number stands in a list
abbrev pub times : ℕ → List ℕ → ℕ
times n numbers = count_by (λ m. m == n) numbers

-- 1 for a number below the bound, and 0 for another
abbrev pub once_below : ℕ → ℕ → ℕ
once_below n bound = if nat_lt n bound then 1 else 0

-- each number below the bound stands in the list, once, and no other does
abbrev pub AreJustBelow : ℕ → List ℕ → Type 0
AreJustBelow bound numbers = (n : ℕ) → times n numbers ≡ once_below n bound

-- no number stands in the list twice
abbrev pub NoneTwice : List ℕ → Type 0
NoneTwice numbers = (n : ℕ) → times n numbers ≤ 1

-- how many numbers a seat drew and may still draw
abbrev pub part : Shown → ℕ
part v = length v.drawn + v.left

-- The rule, for what the ticket word and the stop word are and all that seats show
pub record IsKept (ticket stop : ℕ) (seats : List Shown) : Type 0 where
  -- each number below the ticket word stands in just one seat's list, once, and no other number stands in any
  pub drawn : (n : ℕ) → sum_by (λ v. times n v.drawn) seats ≡ once_below n ticket
  -- so the lists have as many numbers as the ticket word says
  pub counted : sum_by (λ v. length v.drawn) seats ≡ ticket
  -- what was drawn and what is left is 2^63
  pub shared : ticket + sum_by (λ v. v.left) seats ≡ 2 ^ 63
  -- the stop word is 0 or 1, is 1 exactly where some seat raised, and is 1 where some seat saw 1
  pub bit : stop ≤ 1
  pub raised : (stop ≡ 1) ↔ (0 < count_by (λ v. v.raised) seats)
  pub seen : (by : ℕ) (v : Shown) → get_elem? seats by ≡ some v → v.saw ≡ true → stop ≡ 1
  -- a seat that raised drew a number or may still draw one
  pub cause : (by : ℕ) (v : Shown) → get_elem? seats by ≡ some v → v.raised ≡ true → 0 < part v

-- the rule of the table: the first word is the ticket word and the second the stop word
abbrev pub Keeps : State ℕ Shown → Type 0
Keeps table = (ticket : ℕ) × (stop : ℕ) × (table.words ≡ ticket ∷ stop ∷ []) × IsKept ticket stop table.views
