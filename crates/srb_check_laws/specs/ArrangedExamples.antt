-- Errors in order, each once, by examples.
use Rattle.std.specs.Prelude.{◌≡◌, ℕ, List, [], ◌∷◌, codes}
use Rattle.srb_terms.specs.declared.diag.Diag.{Diag}
use Rattle.srb_check.specs.Arranged.{arranged}

-- an error of this number from one offset to another
abbrev pub error_at : ℕ → ℕ → ℕ → List ℕ → Diag
error_at start end number text = record { span = record { start = start; end = end }; number = number; text = text }

-- the same errors in order, in the other order and then once more
abbrev pub EachIsKeptOnce : Type 0
EachIsKeptOnce =
    let first : Diag = error_at 0 1 5002 (codes "a") in
    let second : Diag = error_at 4 5 5002 (codes "b") in
    arranged (second ∷ first ∷ second ∷ first ∷ []) ≡ first ∷ second ∷ []

-- what starts first goes first, then what ends first, then the lower number, then the text that is less by its bytes
abbrev pub EachHasItsPlace : Type 0
EachHasItsPlace =
    arranged (error_at 3 9 1 [] ∷ error_at 2 9 9 [] ∷ error_at 2 8 9 (codes "z") ∷ error_at 2 8 9 (codes "y") ∷ error_at 2 8 9 [] ∷ error_at 2 8 7 (codes "z") ∷ [])
    ≡ error_at 2 8 7 (codes "z") ∷ error_at 2 8 9 [] ∷ error_at 2 8 9 (codes "y") ∷ error_at 2 8 9 (codes "z") ∷ error_at 2 9 9 [] ∷ error_at 3 9 1 [] ∷ []
