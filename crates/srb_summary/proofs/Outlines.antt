-- The outline of the same label and parts is the same.
use Rattle.std.proofs.Common.{◌≡◌, ℕ, List, ◌∙◌}
use Rattle.srb_terms.specs.declared.outline.Outline.{Outline, out-Outline}
use Rattle.srb_terms.specs.declared.outline.Outline.TheViews.{roll-Outline, roll-out-Outline}

pub made_again : (o : Outline) (words : List ℕ) (parts : List Outline) → words ≡ (out-Outline o).label.words → parts ≡ (out-Outline o).parts →
    roll-Outline (record { label = record { kind = (out-Outline o).label.kind; words = words }; parts = parts }) ≡ o
made_again o words parts w p =
    (λ i. roll-Outline (record { label = record { kind = (out-Outline o).label.kind; words = w i }; parts = p i })) ∙ roll-out-Outline o
