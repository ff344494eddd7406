use Rattle.std.proofs.Common.{List, Bor, ap, sym, ◌∙◌}
use Rattle.std.specs.Prelude.{option_map}
use Rattle.srb_terms.specs.declared.outline.Outline.{Outline}
use Rattle.srb_sig.specs.Chains.{last_call_at, seen_said}
use Rattle.srb_sig.specs.Forms.{kind_of, words_of, parts_of}
use Rattle.srb_sig.proofs.Chains.{last_of}
use Rattle.srb_sig.proofs.chain.with_last.Goals as goal

pub returns-in-len1-up : goal.returns-in-len1-up
returns-in-len1-up c =
    let last = c.last-item.result in
    let arguments = option_map (λ (a : Bor (List Outline)). a.now) c.args.arguments in
    c.last_call.ensures
    ∙ ap (λ s. last_call_at s (kind_of last) (words_of last) (parts_of last) arguments) c.with_suffixes.ensures
    ∙ sym (last_of (option_map seen_said c.args.said) c.args.suffixes.now last arguments c.in-len1-up.len_at_least c.last-item.is)
