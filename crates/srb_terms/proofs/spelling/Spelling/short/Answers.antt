use Rattle.std.proofs.Common.{◌≡◌, ◌++◌, ◌∙◌, sym, subst, drop, length, replicate}
use Rattle.srb_terms.specs.Spellings.{IsHeld}
use Rattle.srb_terms.specs.declared.spelling.Bytes.TheVariants.{Short}
use Rattle.srb_terms.proofs.Filled.{is_held_filled}
use Rattle.srb_terms.proofs.spelling.Spelling.short.Goals as goal

-- zeros stand after the text
pub invariant_of-result : goal.invariant_of-result
invariant_of-result c =
    let text = c.args.text.now in
    let copied : c.copy_from_slice.new.self ≡ text = c.copy_from_slice.ensures.after ∙ c.as_bytes.ensures.value in
    subst (λ front. IsHeld (Short (length text) (front ++ drop (length text) (replicate 14 0)))) (sym copied) (is_held_filled text c.requires c.utf8.text)
