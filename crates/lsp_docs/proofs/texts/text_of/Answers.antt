use Rattle.std.proofs.Common.{◌≡◌, [], refl, sym, ap, ◌∙◌}
use Rattle.std.specs.Str.{chars}
use Rattle.lsp_docs.proofs.TextLemmas.{same_ok, text_of_other, text_of_text}
use Rattle.lsp_docs.proofs.texts.text_of.Goals as goal

pub returns-in-Ok : goal.returns-in-Ok
returns-in-Ok c =
    same_ok c.of.result _ _ (ap chars c.in-Ok.ensures.cases.0 ∙ sym (text_of_text c.args.bytes.now c.in-Ok.ensures.cases.1)) c.of.ensures

pub returns-in-Err : goal.returns-in-Err
returns-in-Err c =
    let none : chars [] ≡ [] = unfold chars in refl in
    same_ok c.of-in-Err.result _ _ (none ∙ sym (text_of_other c.args.bytes.now c.in-Err.ensures.cases.0)) c.of-in-Err.ensures
