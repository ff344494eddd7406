-- Words that are no command.
use Rattle.std.proofs.Common.{◌≡◌, ℕ, ◌≤◌, List, [], ◌∷◌, length, map, None, refl, arith}
use Rattle.srb_cli.specs.Commands.{serving}

-- no session has more than three words after `lsp`
pub too_many : {A : Type 0} (f : A → List ℕ) (words : List A) → 4 ≤ length words → None ≡ serving (map f words)
too_many f [] many = absurd (omega (arith, many))
too_many f (a ∷ []) many = absurd (omega (arith, many))
too_many f (a ∷ b ∷ []) many = absurd (omega (arith, many))
too_many f (a ∷ b ∷ c ∷ []) many = absurd (omega (arith, many))
too_many f (a ∷ b ∷ c ∷ d ∷ words) many = refl
