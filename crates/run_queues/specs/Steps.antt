-- What each atomic step tells the thread that makes it: push and full push, pop and empty pop, split and join.
use Rattle.std.specs.Prelude.{◌≡◌, ℕ, ◌+◌, ◌-◌, ◌/◌, ◌^◌, List, [], ◌∷◌, ◌++◌}
use mathlib.Core.Option.{some}
use lib.ListN.{get_elem?}
use Rattle.run_queues.specs.declared.item.Item.{Item}
use Rattle.run_queues.specs.declared.entry.Entry.{Entry}
use Rattle.run_queues.specs.declared.entry.Entry.TheVariants.{View, Found}
use Rattle.run_queues.specs.declared.entry.Shown.{Shown}
use Rattle.run_queues.specs.Handing.{working, telling, IsRightBy, Hands}

module _ {W : Type 0} where
  -- a push of the view, while the queue is made, and a push of an item
  abbrev pub after_push : Shown W → Entry W → Shown W
  after_push v (View w) = telling w
  after_push v (Found item) = working v.view (v.gave ++ item ∷ []) v.got (v.left - 1)

  abbrev pub Pushed : Shown W → Entry W → Shown W → Type 0
  Pushed v x u = u ≡ after_push v x

  -- a pop of the view, while the queue is made
  abbrev pub WasTold : Shown W → Entry W → Shown W → Type 0
  WasTold v x u = u ≡ working v.view [] [] (2 ^ 63)

  -- a pop of an item
  abbrev pub Popped : (W → Item → Type 0) → Shown W → Entry W → Shown W → Type 0
  Popped right v (View w) u = ⊥
  Popped right v (Found item) u = IsRightBy right v.view item × (u ≡ working v.view v.gave (v.got ++ item ∷ []) (v.left - 1))

  -- a full push and an empty pop: the rule held of what the queue held, beside this pass
  abbrev pub HeldBeside : (W → Item → Type 0) → Shown W → List (Entry W) → Type 0
  HeldBeside right v entries = (views : List (Shown W)) × (port : ℕ) × Hands right entries views × (get_elem? views port ≡ some v)

  -- a split: the new pass shows the same view, and may make half of the puts and takes that are left, rounded down
  abbrev pub kept_half : Shown W → Shown W
  kept_half v = working v.view v.gave v.got (v.left - v.left / 2)

  abbrev pub given_half : Shown W → Shown W
  given_half v = working v.view [] [] (v.left / 2)

  -- a join
  abbrev pub joined : Shown W → Shown W → Shown W
  joined v u = working v.view (v.gave ++ u.gave) (v.got ++ u.got) (v.left + u.left)
