use Rattle.std.proofs.Common.{◌≡◌, ◌||◌, ℕ, List, length}
use Rattle.srb_terms.specs.NameSets.{has_name}
use Rattle.srb_judgement.proofs.visible.put_all.Given as goal

abbrev pub invariant-names : goal.invariant-names
invariant-names l = (other : List ℕ) → (has_name other l.at || has_name other l.set.keys) ≡ (has_name other l.names || has_name other l.fn.set.keys)

abbrev pub decreases-names : goal.decreases-names
decreases-names l = length l.at
