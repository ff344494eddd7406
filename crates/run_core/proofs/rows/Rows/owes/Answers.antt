use Rattle.std.proofs.Common.{not, nat_lt, ap, ◌∙◌}
use Rattle.srb_terms.specs.PathMaps.{PathList}
use Rattle.lsp_docs.specs.Uris.{is_empty}
use Rattle.run_core.specs.Rows.{marked}
use Rattle.run_core.specs.declared.mark.Mark.TheVariants.{Owed}
use Rattle.run_core.proofs.RowIndexes.{first_marked-some}
use Rattle.run_core.proofs.rows.Rows.owes.Goals as goal

pub returns : goal.returns
returns c =
    (λ i. nat_lt (c.self.invariant.owed i) (c.len.ensures i)) ∙ first_marked-some Owed c.self.inside.map.entries
    ∙ ap (λ (m : PathList _). not (is_empty (marked Owed m.entries))) c.self.view_is
