-- The rule of the queue of results, over what the queue holds and over what each pass shows.
use Rattle.std.specs.Prelude.{◌≡◌, ◌⊎◌, ℕ, ◌+◌, ◌^◌, List, [], ◌∷◌, ◌++◌, length, map, flat_map, sum_by, Option, Some, None, IsPermutation}
use mathlib.Core.Option.{some}
use lib.ListN.{get_elem?}
use Rattle.run_queues.specs.declared.item.Item.{Item}
use Rattle.run_queues.specs.declared.entry.Entry.{Entry}
use Rattle.run_queues.specs.declared.entry.Entry.TheVariants.{View, Found}
use Rattle.run_queues.specs.declared.entry.Stage.{Stage}
use Rattle.run_queues.specs.declared.entry.Stage.TheVariants.{Opening, Telling, Working, Spent}
use Rattle.run_queues.specs.declared.entry.Shown.{Shown}

module _ {W : Type 0} where
  abbrev pub shown : Stage → Option W → List Item → List Item → ℕ → Shown W
  shown stage view gave got left = record { stage = stage; view = view; gave = gave; got = got; left = left }

  -- the first pass, before it was told the view
  abbrev pub opening : Shown W
  opening = shown Opening None [] [] (2 ^ 63)

  -- the first pass, while this view lies in the queue
  abbrev pub telling : W → Shown W
  telling w = shown Telling (Some w) [] [] (2 ^ 63)

  -- a pass that shows this view, what it gave and got, and how many puts and takes it may still make
  abbrev pub working : Option W → List Item → List Item → ℕ → Shown W
  working = shown Working

  -- a pass that was joined away
  abbrev pub spent : Shown W
  spent = shown Spent None [] [] 0

  -- the item is right by the view that is shown
  abbrev pub IsRightBy : (W → Item → Type 0) → Option W → Item → Type 0
  IsRightBy right None item = ⊥
  IsRightBy right (Some w) item = right w item

  -- each of the items is right by the view
  abbrev pub EachIsRight : (W → Item → Type 0) → W → List Item → Type 0
  EachIsRight right w [] = Unit {0}
  EachIsRight right w (item ∷ items) = right w item × EachIsRight right w items

  -- the pass shows this view, or it was joined away
  abbrev pub ShowsOrIsSpent : W → Shown W → Type 0
  ShowsOrIsSpent w v = ((v.stage ≡ Working) × (v.view ≡ Some w)) ⊎ (v ≡ spent)

  -- the items that all passes gave
  abbrev pub all_gave : List (Shown W) → List Item
  all_gave = flat_map (λ v. v.gave)

  -- the items that all passes got
  abbrev pub all_got : List (Shown W) → List Item
  all_got = flat_map (λ v. v.got)

  -- the puts and takes that the pass made and may still make
  abbrev pub share : Shown W → ℕ
  share v = length v.gave + length v.got + v.left

-- The queue holds these items. Every pass shows the same view, the items that were given are, each as often, those that were got and those in the queue,
-- each item in the queue is right by the view, and what was given and got and may still be put and taken makes 2^63 together
pub record Keeps {W : Type 0} (right : W → Item → Type 0) (w : W) (content : List Item) (views : List (Shown W)) : Type 0 where
  pub same_view : (port : ℕ) (v : Shown W) → get_elem? views port ≡ some v → ShowsOrIsSpent w v
  pub as_often : IsPermutation (all_gave views) (all_got views ++ content)
  pub each_is_right : EachIsRight right w content
  pub shares : sum_by share views ≡ 2 ^ 63

module _ {W : Type 0} where
  -- nothing was put, and the one pass was told nothing
  abbrev pub IsOpening : List (Entry W) → List (Shown W) → Type 0
  IsOpening entries views = (entries ≡ []) × (views ≡ opening ∷ [])

  -- the view lies in the queue, and there is one pass
  abbrev pub IsTelling : List (Entry W) → List (Shown W) → Type 0
  IsTelling entries views = (w : W) × (entries ≡ View w ∷ []) × (views ≡ telling w ∷ [])

  -- the queue holds items
  abbrev pub IsWorking : (W → Item → Type 0) → List (Entry W) → List (Shown W) → Type 0
  IsWorking right entries views = (w : W) × (content : List Item) × (entries ≡ map Found content) × Keeps right w content views

  -- the rule
  abbrev pub Hands : (W → Item → Type 0) → List (Entry W) → List (Shown W) → Type 0
  Hands right entries views = IsOpening entries views ⊎ (IsTelling entries views ⊎ IsWorking right entries views)
