use Rattle.std.proofs.Common.{length, sym, ap, ◌∙◌, subst, arith}
use Rattle.lsp_docs.specs.Documents.{Documents, AreDocuments}
use Rattle.lsp_docs.specs.Rows.{present_of}
use Rattle.lsp_docs.proofs.RowLemmas.{IsProject-reading, length-project_of}
use Rattle.lsp_docs.proofs.docs.Docs.len.Goals as goal

pub returns-clause-len : goal.returns-clause-len
returns-clause-len c =
    ap length c.entries.ensures.entries ∙ sym (length-project_of c.self.inside.rows c.entries.ensures.rows.present) ∙ ap (λ (d : Documents). length d.project) c.self.view_is

pub returns-clause-kept : goal.returns-clause-kept
returns-clause-kept c =
    let rows = c.self.inside.rows in
    let are = c.entries.ensures.rows in
    subst AreDocuments c.self.view_is (record {
      project = IsProject-reading present_of rows are.ordered;
      saved = IsProject-reading (λ d. d.saved) rows are.ordered;
      files = omega (arith, length-project_of rows are.present, c.entries.ensures.count);
      bytes = c.entries.ensures.bytes;
    })
