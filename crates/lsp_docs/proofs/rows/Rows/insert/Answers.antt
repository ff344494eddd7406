use Rattle.std.proofs.Common.{◌+◌, length, ap, sym, subst, arith}
use Rattle.lsp_docs.proofs.RowsHold.{Holds, insert_holds, total_same}
use Rattle.lsp_docs.proofs.rows.Rows.insert.Goals as goal

pub invariant_of-self-2 : goal.invariant_of-self-2
invariant_of-self-2 c =
    let sum = total_same _ _ c.self.view_is in
    let count = ap length c.self.view_is in
    let total = c.self.inside.total + c.size-size.result in
    subst (λ rows. Holds rows total) (sym c.in_ok-insert.ensures.ok)
    (insert_holds c.args.path c.args.doc c.self.inside.map.entries c.self.inside.total total c.args.index c.self.invariant
    c.requires.present (omega (arith, count, c.requires.room)) (omega (arith, c.size-size.ensures)) (omega (arith, c.size-size.ensures, sum, c.requires.fits, c.self.invariant.2)))
