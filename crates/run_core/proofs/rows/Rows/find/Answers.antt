use Rattle.std.proofs.Common.{sym, ap, subst, ◌∙◌}
use Rattle.srb_terms.specs.PathMaps.{IsPlaceOf, PathList}
use Rattle.lsp_docs.specs.Paths.{has}
use Rattle.run_core.specs.Rows.{marked}
use Rattle.run_core.proofs.RowMarks.{absent-marked}
use Rattle.run_core.proofs.rows.Rows.find.Goals as goal

pub returns-in-Err-clause-none : goal.returns-in-Err-clause-none
returns-in-Err-clause-none c = λ m.
    let rows = c.self.inside.map.entries in
    ap (λ (v : PathList _). has c.args.path.now (marked m v.entries)) (sym c.self.view_is)
    ∙ absent-marked m c.args.path.now rows c.in-Err.field-0 c.self.invariant.ordered
    (subst (λ f. IsPlaceOf f rows c.in-Err.field-0) c.as_str.ensures.text c.in-Err.ensures.absent)
