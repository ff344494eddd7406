use Rattle.std.proofs.Common.{◌≡◌, ◌∙◌, subst}
use Rattle.std.specs.Prelude.{Err}
use Rattle.lsp_docs.specs.Documents.{opens}
use Rattle.lsp_docs.proofs.ApplyLemmas.{err_is, named_is}
use Rattle.lsp_docs.proofs.docs.Docs.open.Goals as goal

pub returns-in_err-doc-clause-refused : goal.returns-in_err-doc-clause-refused
returns-in_err-doc-clause-refused c =
    let e = c.in_err-doc.field-0.0 in
    err_is c.from_residual-in_err-doc.result e _ c.from_residual-in_err-doc.ensures.1 (λ other.
    named_is c.args.self.now c.args.uri.now c.in_ok-path.path (opens c.args.self.now c.args.text.now) c.in_ok-path.ensures.named
    ∙ subst (λ d. opens d c.args.text.now c.in_ok-path.path ≡ Err e) c.self.view_is (c.in_err-doc.ensures.refused other (record { root = c.self.inside.root; encoding = c.self.inside.encoding })))
