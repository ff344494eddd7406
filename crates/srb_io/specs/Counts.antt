-- Counts of faults.
use Rattle.std.specs.Prelude.{◌≡◌, ℕ, ◌+◌, ◌<◌, MatchResult}
use Rattle.std.specs.declared.result.Result.{Result}

-- a count of faults over one call: it rises by one exactly where the call failed
abbrev pub Counts : {T E : Type 0} → ℕ → ℕ → Result T E → Type 0
Counts before now r = MatchResult r (λ _. now ≡ before) (λ _. now ≡ before + 1)

-- a count of faults is above what it was before
abbrev pub HasRisen : ℕ → ℕ → Type 0
HasRisen before now = before < now
