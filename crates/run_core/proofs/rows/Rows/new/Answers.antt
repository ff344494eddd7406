use Rattle.std.proofs.Common.{length, sym, ap, ◌∙◌}
use Rattle.run_core.specs.Rows.{first_marked}
use Rattle.run_core.specs.declared.mark.Mark.TheVariants.{Todo, Owed}
use Rattle.run_core.proofs.RowIndexes.{opening-first}
use Rattle.run_core.proofs.rows.Rows.new.Goals as goal

pub invariant_of-result : goal.invariant_of-result
invariant_of-result c =
    let entries = c.in_ok-map.ensures in
    let none = opening-first c.files.result.now in
    let size = ap length (c.entries-first.ensures.entries ∙ entries) in
    record {
      ordered = c.entries-first.ensures.ordered;
      todo = size ∙ sym none.0 ∙ ap (first_marked Todo) (sym entries);
      owed = size ∙ sym none.1 ∙ ap (first_marked Owed) (sym entries);
    }
