use Rattle.std.proofs.Common.{sym, subst, ◌∙◌}
use Rattle.srb_terms.specs.PathMaps.{IsAfterAll}
use Rattle.lsp_docs.proofs.RowsHold.{after_taken, place_at_end}
use Rattle.lsp_docs.proofs.rows.copied_map.Goals as goal

pub insert-requires : goal.insert-requires
insert-requires c =
    let path = c.in_ok-copied.field-0 in
    let rows = c.entries-row-items.result.now in
    let after = after_taken path rows c.args.map.now.entries c.rows.row-index c.row-item.result c.entries-row-items.ensures.entries c.entries-row-items.ensures.ordered
    c.rows-test.true c.row-item.is (c.in_ok-copied.ensures ∙ c.path.ensures) in
    place_at_end path c.rows.copy.entries c.len-count.result c.len-count.ensures (subst (IsAfterAll path) (sym c.rows.invariant) after)
