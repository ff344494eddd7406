-- The rule of the inbox, over the inputs that its queue holds and over what each pass knows.
use Rattle.std.specs.Prelude.{◌≡◌, ℕ, Bool, true, false, List, [], ◌∷◌, ◌++◌}
use mathlib.Core.Option.{some}
use lib.ListN.{get_elem?}
use Rattle.run_watch.specs.declared.inp.Inp.{Inp}
use Rattle.run_queues.specs.declared.heard.Heard.{Heard}
use Rattle.run_queues.specs.declared.heard.Heard.TheVariants.{Took, Empty}
use Rattle.run_queues.specs.declared.heard.Mail.{Mail}

abbrev pub mail : Bool → Bool → List Inp → List Heard → Mail
mail puts takes sent heard = record { puts = puts; takes = takes; sent = sent; heard = heard }

-- the first pass, which puts and takes
abbrev pub opening : Mail
opening = mail true true [] []

-- a pass that neither puts nor takes
abbrev pub spent : Mail
spent = mail false false [] []

-- the inputs that were heard, in order
abbrev pub inputs : List Heard → List Inp
inputs [] = []
inputs (Took inp ∷ later) = inp ∷ inputs later
inputs (Empty ∷ later) = inputs later

-- at most one pass has this right, the one at this place, and it shows this
abbrev pub HasOnly : {X : Type 0} → (Mail → Bool) → (Mail → X) → List Mail → ℕ → X → Type 0
HasOnly has shows views place shown = (port : ℕ) (v : Mail) → get_elem? views port ≡ some v → has v ≡ true → (port ≡ place) × (shows v ≡ shown)

-- What was sent is the inputs of what was heard, and then the queue's content. At most one pass puts, and it shows what was sent; at most
-- one takes, and it shows what was heard
pub record Delivers (content : List Inp) (views : List Mail) : Type 0 where
  pub putter : ℕ
  pub taker : ℕ
  pub sent : List Inp
  pub heard : List Heard
  pub in_order : sent ≡ inputs heard ++ content
  pub puts : HasOnly (λ v. v.puts) (λ v. v.sent) views putter sent
  pub takes : HasOnly (λ v. v.takes) (λ v. v.heard) views taker heard
