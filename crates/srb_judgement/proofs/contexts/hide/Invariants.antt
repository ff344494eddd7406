use Rattle.std.proofs.Common.{◌≡◌, ℕ, List, drop}
use Rattle.srb_judgement.specs.Kept.{own_pin}
use Rattle.srb_judgement.specs.Steps.{hidden_after}
use Rattle.srb_judgement.proofs.contexts.hide.Given as goal

abbrev pub invariant-parameters : goal.invariant-parameters
invariant-parameters l =
    (other : List ℕ) →
    hidden_after (drop l.name-index l.parameters) other (own_pin l.layer other)
    ≡ hidden_after l.parameters other (own_pin l.fn.layer other)
