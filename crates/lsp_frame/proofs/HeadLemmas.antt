-- Heads, byte by byte.
use Rattle.std.proofs.Common.{◌≡◌, ℕ, ◌+◌, List, [], ◌∷◌, ◌++◌, None, Some, refl}
use Rattle.std.specs.declared.option.Option.{Option}
use Rattle.lsp_frame.specs.declared.head.Scan.{Scan}
use Rattle.lsp_frame.specs.declared.head.Head.{Head}
use Rattle.lsp_frame.specs.declared.head.Head.TheVariants.{Unended, Broken, Gives}
use Rattle.lsp_frame.specs.Head.{settled_or, go_on, step_of, head_at, head_from}

settled_or-settled : (head later : Head) → (head ≡ Unended → ⊥) → settled_or head later ≡ head
settled_or-settled Unended later settled = absurd (settled refl)
settled_or-settled (Broken at) later settled = refl
settled_or-settled (Gives length size) later settled = refl

-- what is settled stays, whatever follows
pub head_from-settled : (size : ℕ) (scan : Scan) (rest : List ℕ) → (head_at size scan ≡ Unended → ⊥)
    → head_from size scan rest ≡ head_at size scan
head_from-settled size scan [] settled = refl
head_from-settled size scan (byte ∷ rest) settled = settled_or-settled (head_at size scan) _ settled

-- ---- what a head decides it decides whatever follows

settled_or-more : (head later later' : Head) → (settled_or head later ≡ Unended → ⊥) → ((later ≡ Unended → ⊥) → later' ≡ later) → settled_or head later' ≡ settled_or head later
settled_or-more Unended later later' settled more = more settled
settled_or-more (Broken at) later later' settled more = refl
settled_or-more (Gives length size) later later' settled more = refl

go_on-more : (next : Option Scan) (broken : Head) (f g : Scan → Head) → (go_on next broken f ≡ Unended → ⊥)
    → ((scan : Scan) → (f scan ≡ Unended → ⊥) → g scan ≡ f scan) → go_on next broken g ≡ go_on next broken f
go_on-more None broken f g settled more = refl
go_on-more (Some scan) broken f g settled more = more scan settled

pub head_from-append : (size : ℕ) (scan : Scan) (xs ys : List ℕ) → (head_from size scan xs ≡ Unended → ⊥)
    → head_from size scan (xs ++ ys) ≡ head_from size scan xs
head_from-append size scan [] ys settled = head_from-settled size scan ys settled
head_from-append size scan (x ∷ xs) ys settled =
    settled_or-more (head_at size scan) _ _ settled (λ later. go_on-more (step_of scan x) (Broken size) _ _ later (λ next h. head_from-append (size + 1) next xs ys h))
