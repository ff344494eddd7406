use Rattle.std.proofs.Common.{ap, arith}
use Rattle.lsp_docs.specs.Rows.{present_of, size_of}
use Rattle.lsp_docs.proofs.RowsHold.{row_of, same_doc, size_within, total_same}
use Rattle.lsp_docs.proofs.rows.Rows.others.Goals as goal

pub overflow_sub-result : goal.overflow_sub-result
overflow_sub-result c =
    let found = row_of c.args.self.now c.args.index c.doc.result.now c.doc.ensures.doc in
    let size = size_within c.args.self.now c.args.index (found.0, c.doc.result.now) found.1 in
    let sum = total_same _ _ c.self.view_is in
    omega (arith, c.size.ensures, size, sum, c.self.invariant.2)

pub returns-clause-sum : goal.returns-clause-sum
returns-clause-sum c = λ r is.
    let same = ap (λ d. size_of (present_of d)) (same_doc c.args.self.now c.args.index c.doc.result.now r c.doc.ensures.doc is) in
    let size = size_within c.args.self.now c.args.index r is in
    let sum = total_same _ _ c.self.view_is in
    omega (arith, c.size.ensures, same, size, sum, c.self.invariant.2)
