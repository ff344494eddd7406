use Rattle.std.proofs.Common.{◌≡◌, ◌∙◌, subst}
use Rattle.std.specs.Prelude.{Err}
use Rattle.lsp_docs.specs.Documents.{closes, if_open}
use Rattle.lsp_docs.proofs.ApplyLemmas.{err_is, named_is}
use Rattle.lsp_docs.proofs.docs.Docs.close.Goals as goal

pub returns-in_err-kept-clause-refused : goal.returns-in_err-kept-clause-refused
returns-in_err-kept-clause-refused c =
    let e = c.in_err-kept.field-0.0 in
    err_is c.from_residual-in_err-kept.result e _ c.from_residual-in_err-kept.ensures.1 (λ other.
    named_is c.args.self.now c.args.uri.now c.in_ok-path.path (if_open c.args.self.now (closes c.args.self.now)) c.in_ok-path.ensures.named
    ∙ subst (λ d. if_open d (closes d) c.in_ok-path.path ≡ Err e) c.self.view_is (c.in_err-kept.ensures.refused other (record { root = c.self.inside.root; encoding = c.self.inside.encoding })))
