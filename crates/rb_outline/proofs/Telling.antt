-- Two outlines are equal where their labels and their parts are.
use Rattle.std.proofs.Common.{◌≡◌, List, sym, ap, ◌∙◌}
use Rattle.srb_terms.specs.declared.outline.Outline.{Outline, out-Outline}
use Rattle.srb_terms.specs.declared.outline.Outline.TheViews.{roll-Outline, roll-out-Outline}

pub parts_tell : (a b : Outline) → (out-Outline a).label ≡ (out-Outline b).label → (out-Outline a).parts ≡ (out-Outline b).parts → a ≡ b
parts_tell a b l p = sym (roll-out-Outline a) ∙ (λ i. roll-Outline (record { label = l i; parts = p i })) ∙ roll-out-Outline b
