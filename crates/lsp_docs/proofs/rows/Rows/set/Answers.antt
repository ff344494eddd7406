use Rattle.std.proofs.Common.{arith}
use Rattle.lsp_docs.specs.Rows.{Row}
use Rattle.lsp_docs.proofs.RowsHold.{get_same, row_of, set_holds, size_within, total_same}
use Rattle.lsp_docs.proofs.rows.Rows.set.Goals as goal

pub overflow_sub-self : goal.overflow_sub-self
overflow_sub-self c =
    let rows = c.self.inside.map.entries in
    let doc = c.value_mut-row.result.now in
    let found = row_of rows c.args.index doc c.value_mut-row.ensures.value in
    let size = size_within rows c.args.index (found.0, doc) found.1 in
    omega (arith, c.size.ensures, size, c.self.invariant.2)

pub invariant_of-self : goal.invariant_of-self
invariant_of-self c =
    let rows = c.self.inside.map.entries in
    let doc = c.value_mut-row.result.now in
    let found = row_of rows c.args.index doc c.value_mut-row.ensures.value in
    let row : Row = (found.0, doc) in
    let was = size_within rows c.args.index row found.1 in
    let fits = c.requires.fits row (get_same rows c.args.self.now c.args.index row c.self.view_is found.1) in
    let sum = total_same rows c.args.self.now c.self.view_is in
    set_holds rows c.self.inside.total _ c.args.index row c.args.doc c.self.invariant found.1 c.requires.present
    (omega (arith, c.size.ensures, c.size-2.ensures, was, c.self.invariant.2))
    (omega (arith, c.size.ensures, c.size-2.ensures, was, fits, sum, c.self.invariant.2))
