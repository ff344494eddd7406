use Rattle.std.proofs.Common.{List, [], ◌∷◌, ◌++◌, sym, ap₂, ◌∙◌}
use Rattle.lsp_msg.specs.declared.placed.Placed.{Placed}
use Rattle.std.specs.Prelude.{encode_utf8_all}
use Rattle.lsp_docs.specs.Documents.{placed}
use Rattle.lsp_docs.proofs.RowsHold.{map-take_next}
use Rattle.lsp_docs.proofs.places.placed.Goals as goal

pub errors-preserved : goal.errors-preserved
errors-preserved c =
    c.in_ok-push.ensures.ok ∙ ap₂ (λ (l : List Placed) one. l ++ one ∷ []) c.errors.invariant c.in_ok-placed_one.ensures
    ∙ sym (map-take_next (placed c.args.encoding (encode_utf8_all c.args.text.now)) c.args.errors.now c.errors.error-index c.error-item.result c.errors-test.true c.error-item.is)
