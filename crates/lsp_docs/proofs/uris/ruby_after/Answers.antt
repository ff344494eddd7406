use Rattle.std.proofs.Common.{◌∙◌, sym, ap}
use Rattle.std.specs.Option.{option_copied}
use Rattle.lsp_docs.proofs.RootLemmas.{no_front}
use Rattle.lsp_docs.proofs.uris.ruby_after.Goals as goal

pub returns-in_err-before : goal.returns-in_err-before
returns-in_err-before c =
    ap option_copied c.from_residual.ensures
    ∙ sym (no_front c.args.front.now c.args.text.now c.utf8.text c.requires (λ cut. let none = c.in_err-before.ensures.variant.1 cut in cc))
