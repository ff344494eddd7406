use Rattle.std.proofs.Common.{sym, ap, refl, ◌∙◌}
use Rattle.srb_terms.specs.Projects.{bytes_at}
use Rattle.srb_text.specs.Limits.{MOST_BYTES}
use Rattle.lsp_docs.specs.Documents.{Documents}
use Rattle.lsp_docs.specs.Rows.{Row, present_of}
use Rattle.lsp_docs.proofs.RowLemmas.{bytes_absent, bytes_here}
use Rattle.lsp_docs.proofs.RowsHold.{same_doc}
use Rattle.lsp_docs.proofs.TextLemmas.{copied_size}
use Rattle.lsp_docs.proofs.docs.Docs.bytes.Goals as goal

pub returns-in-Ok-clause-bytes : goal.returns-in-Ok-clause-bytes
returns-in-Ok-clause-bytes c =
    let found = c.in-Ok.ensures.found in
    let row : Row = (c.args.path.now, found.0) in
    c.present.ensures ∙ ap present_of (same_doc c.self.inside.rows c.in-Ok.index c.doc.result.now row c.doc.ensures.doc found.1)
    ∙ sym (bytes_here present_of c.self.inside.rows c.in-Ok.index row c.find.ensures.rows.ordered found.1)
    ∙ ap (λ (d : Documents). bytes_at c.args.path.now d.project) c.self.view_is

pub returns-in-Ok-clause-small : goal.returns-in-Ok-clause-small
returns-in-Ok-clause-small c = copied_size c.present.result (present_of c.doc.result.now) MOST_BYTES c.present.ensures c.doc.ensures.small

pub returns-in-Err-clause-bytes : goal.returns-in-Err-clause-bytes
returns-in-Err-clause-bytes c =
    sym (bytes_absent present_of c.args.path.now c.self.inside.rows c.in-Err.field-0 c.in-Err.ensures.absent refl)
    ∙ ap (λ (d : Documents). bytes_at c.args.path.now d.project) c.self.view_is
