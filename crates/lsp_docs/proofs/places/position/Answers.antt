use Rattle.std.proofs.Common.{sym, ap, ◌∙◌}
use Rattle.srb_text.specs.Positions.{position_of, weight_of}
use Rattle.lsp_docs.proofs.PlaceLemmas.{position_found}
use Rattle.lsp_docs.proofs.TextLemmas.{text_of_spelled}
use Rattle.lsp_docs.proofs.places.position.Goals as goal

pub returns : goal.returns
returns c =
    let floor = c.floor_char_boundary-start.ensures in
    c.pos.ensures ∙ position_found (weight_of c.args.encoding) c.args.text.now c.as_str.result.now c.args.at c.floor_char_boundary-start.result c.starts_are_boundaries.ensures
    c.as_str.ensures.bytes floor.bound floor.boundary floor.nearest
    ∙ ap (λ t. position_of (weight_of c.args.encoding) t c.args.at) (sym (text_of_spelled c.args.text.now c.as_str.ensures.scalars))
