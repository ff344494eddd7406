use Rattle.std.proofs.Common.{sym, subst, ◌∙◌}
use Rattle.std.proofs.lemmas.Str.{IsUtf8-string_bytes}
use Rattle.srb_text.specs.Positions.{weight_of, IsStart}
use Rattle.srb_text.proofs.TransferLemmas.{view_spells, offset_is, offset_start}
use Rattle.srb_text.proofs.Text.offset.Goals as goal

pub returns-clause-offset : goal.returns-clause-offset
returns-clause-offset c =
    let spells = view_spells _ _ (IsUtf8-string_bytes c.self.inside.text) c.self.view_is in
    c.offset_in.ensures.offset ∙ offset_is c.args.encoding _ _ c.args.p (spells.0 ∙ sym c.as_bytes.ensures.value)

pub returns-clause-start : goal.returns-clause-start
returns-clause-start c =
    let spells = view_spells _ _ (IsUtf8-string_bytes c.self.inside.text) c.self.view_is in
    let offset = c.offset_in.ensures.offset ∙ offset_is c.args.encoding _ _ c.args.p (spells.0 ∙ sym c.as_bytes.ensures.value) in
    subst (IsStart c.args.self.now) (sym offset) (offset_start (weight_of c.args.encoding) c.args.self.now c.args.p)
