use Rattle.std.proofs.Common.{◌-◌, sym, subst, arith}
use Rattle.lsp_docs.specs.Rows.{Row}
use Rattle.lsp_docs.proofs.RowsHold.{Holds, get_same, remove_holds, row_of, size_within, total_same}
use Rattle.lsp_docs.proofs.rows.Rows.remove.Goals as goal

pub overflow_sub-self : goal.overflow_sub-self
overflow_sub-self c =
    let found = row_of c.args.self.now c.args.index c.doc.result.now c.doc.ensures.doc in
    let size = size_within c.args.self.now c.args.index (found.0, c.doc.result.now) found.1 in
    let sum = total_same _ _ c.self.view_is in
    omega (arith, c.size.ensures, size, sum, c.self.invariant.2)

pub invariant_of-self : goal.invariant_of-self
invariant_of-self c =
    let rows = c.self.inside.map.entries in
    let found = row_of c.args.self.now c.args.index c.doc.result.now c.doc.ensures.doc in
    let row : Row = (found.0, c.doc.result.now) in
    let get = get_same c.args.self.now rows c.args.index row (sym c.self.view_is) found.1 in
    subst (λ rs. Holds rs (c.self.inside.total - c.size.result)) (sym c.remove.ensures)
    (remove_holds rows c.self.inside.total (c.self.inside.total - c.size.result) c.args.index row c.self.invariant get
    (omega (arith, size_within rows c.args.index row get, c.size.ensures, c.self.invariant.2)))
