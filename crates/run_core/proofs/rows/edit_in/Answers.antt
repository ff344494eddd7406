use Rattle.std.proofs.Common.{ap, subst, ◌∙◌}
use Rattle.srb_terms.specs.PathMaps.{IsEntryOf, IsPlaceOf}
use Rattle.run_core.specs.Rows.{edited_row}
use Rattle.run_core.proofs.RowMarks.{added_at, changed_at}
use Rattle.run_core.proofs.rows.edit_in.Goals as goal

pub returns-in-Ok : goal.returns-in-Ok
returns-in-Ok c =
    let entries = c.args.map.now.entries in
    let found : IsEntryOf c.args.path entries c.in-Ok.index = subst (λ f. IsEntryOf f entries c.in-Ok.index) c.as_str.ensures.text c.in-Ok.ensures.found in
    changed_at entries c.in-Ok.index (c.args.path, found.0) c.value_mut.result.now c.note_edit.new.row (edited_row c.args.present c.args.kept)
    c.in-Ok.ensures.ordered found.1 c.value_mut.ensures.value c.note_edit.ensures

pub returns-in-Err : goal.returns-in-Err
returns-in-Err c =
    let entries = c.args.map.now.entries in
    let place : IsPlaceOf c.args.path entries c.in-Err.index = subst (λ f. IsPlaceOf f entries c.in-Err.index) c.as_str.ensures.text c.in-Err.ensures.absent in
    c.insert_within.ensures
    ∙ added_at entries c.in-Err.index c.args.path c.note_edit-in-Err.new.row (edited_row c.args.present c.args.kept) place
    (c.note_edit-in-Err.ensures ∙ ap (edited_row c.args.present c.args.kept) c.new_row-row.ensures)
