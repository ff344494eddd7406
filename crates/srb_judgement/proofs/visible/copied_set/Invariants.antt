use Rattle.std.proofs.Common.{◌≡◌, ◌||◌, ℕ, List, drop}
use Rattle.srb_terms.specs.NameSets.{has_name}
use Rattle.srb_judgement.proofs.visible.copied_set.Given as goal

abbrev pub invariant-names : goal.invariant-names
invariant-names l = (other : List ℕ) → (has_name other (drop l.name-index l.names.keys) || has_name other l.copy.keys) ≡ has_name other l.names.keys
