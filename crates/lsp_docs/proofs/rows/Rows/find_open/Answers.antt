use Rattle.std.proofs.Common.{sym, ap, ◌∙◌}
use Rattle.lsp_docs.specs.declared.doc.Doc.{Doc}
use Rattle.lsp_docs.proofs.RowsHold.{absent_not_open, not_open, same_doc}
use Rattle.lsp_docs.proofs.rows.Rows.find_open.Goals as goal

pub returns-in-None-clause-none : goal.returns-in-None-clause-none
returns-in-None-clause-none c =
    let found = c.in-Ok.ensures.found in
    not_open c.args.path.now c.args.self.now c.in-Ok.index found.0 c.find.ensures.rows.ordered found.1
    (ap (λ (d : Doc). d.text) (sym (same_doc c.args.self.now c.in-Ok.index c.doc.result.now (c.args.path.now, found.0) c.doc.ensures.doc found.1)) ∙ c.in-None.is)

pub returns-in-Err-clause-none : goal.returns-in-Err-clause-none
returns-in-Err-clause-none c = absent_not_open c.args.path.now c.args.self.now c.in-Err.field-0 c.in-Err.ensures.absent
