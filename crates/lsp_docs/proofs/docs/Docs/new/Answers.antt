use Rattle.std.proofs.Common.{ℕ, List, ap₂, ◌∙◌}
use Rattle.lsp_docs.specs.Rows.{Row, documents_of}
use Rattle.srb_text.specs.declared.Encoding.TheVariants.{Utf16}
use Rattle.lsp_docs.proofs.ApplyLemmas.{closed_documents}
use Rattle.lsp_docs.proofs.docs.Docs.new.Goals as goal

pub returns : goal.returns
returns c =
    ap₂ (λ (root : List ℕ) (rows : List Row). documents_of (record { root = root; encoding = Utf16 }) rows) c.in_ok-root_of.ensures c.in_ok-new.ensures
    ∙ closed_documents c.args.files
