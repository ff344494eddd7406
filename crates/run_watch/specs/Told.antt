-- What traces and watchers were told.
use Rattle.std.specs.Prelude.{◌≡◌, ◌⊎◌, Bool, List, [], ◌∷◌, ◌++◌, Option, None, if◌then◌else◌}
use Rattle.std.specs.Option.{option_map}
use Rattle.run_watch.specs.declared.step.Step.{Step}

-- A trace may tell its list of steps: the list with these steps added, where it is told.
abbrev pub with_steps : Option (List Step) → List Step → Option (List Step)
with_steps told steps = option_map (λ before. before ++ steps) told

-- no list is told
abbrev pub UNTOLD : Option (List Step)
UNTOLD = None

-- A watcher adds its step to the list that it was told, or leaves the list untold from then on.
abbrev pub Learns : Option (List Step) → Option (List Step) → Step → Type 0
Learns old new step = (new ≡ with_steps old (step ∷ [])) ⊎ (new ≡ None)

-- In each step every box that is there is told the step once, in order, and those that stay are there afterwards, in
-- their order; the others are dropped.
abbrev pub AreTold : {W : Type 0} → (W → Option (List Step)) → (W → Step → Bool) → Step → List W → List W → Type 0
AreTold seen leaves step [] after = after ≡ []
AreTold {W} seen leaves step (w ∷ ws) after =
    (told : W) × Learns (seen w) (seen told) step × (rest : List W) × AreTold seen leaves step ws rest
    × (after ≡ (if leaves w step then rest else told ∷ rest))
