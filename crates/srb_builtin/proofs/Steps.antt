-- Steps of definitions, in the forms in which the functions take them.
use Rattle.std.proofs.Common.{◌≡◌, ◌≢◌, ℕ, suc, ◌+◌, ◌-◌, ◌<◌, List, [], ◌∷◌, ◌++◌, refl, ap, ◌∙◌, arith}
use Rattle.srb_terms.specs.declared.fact.Fact.{Fact}
use Rattle.srb_terms.specs.declared.outline.Outline.{Outline}
use Rattle.srb_builtin.specs.Outlines.{chain, params_returns}
use Rattle.srb_builtin.specs.Types.{type_within, type_over}

-- the chain of a signature with keywords
pub chain_more : (keywords : List Outline) (result : Outline) → keywords ≢ [] → chain keywords result ≡ params_returns keywords result
chain_more [] result h = absurd (h refl)
chain_more (first ∷ rest) result h = refl

-- the type with which a text begins, in brackets that may be one deeper
pub within_step : (depth : ℕ) (text : List ℕ) → depth ≢ 0 → type_within depth text ≡ type_over (type_within (depth - 1)) text
within_step depth text h =
    let up : depth ≡ suc (depth - 1) = omega arith in
    ap (λ d. type_within d text) up

-- what is added to no fact
pub from_none : {old new more : List Fact} → new ≡ old ++ more → old ≡ [] → new ≡ more
from_none {old} {new} {more} e none = e ∙ ap (λ l. l ++ more) none
