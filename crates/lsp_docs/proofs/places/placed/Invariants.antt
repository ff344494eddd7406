use Rattle.std.proofs.Common.{◌≡◌, map, take}
use Rattle.std.specs.Prelude.{encode_utf8_all}
use Rattle.lsp_docs.specs.Documents.{placed}
use Rattle.lsp_docs.proofs.places.placed.Given as goal

-- the errors so far are placed
abbrev pub invariant-errors : goal.invariant-errors
invariant-errors l = l.list ≡ map (placed l.encoding (encode_utf8_all l.text)) (take l.error-index l.errors)
