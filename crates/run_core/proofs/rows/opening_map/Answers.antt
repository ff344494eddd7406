use Rattle.std.proofs.Common.{length, refl, sym, ◌∙◌, subst}
use Rattle.std.proofs.lemmas.Option.{slice_get_read}
use Rattle.srb_terms.specs.PathMaps.{IsPlaceOf}
use Rattle.run_core.proofs.RowIndexes.{opening_place}
use Rattle.run_core.proofs.rows.opening_map.Goals as goal

pub insert-requires : goal.insert-requires
insert-requires c =
    let rows = c.files.map.entries in
    let named = c.in_ok-copied.ensures ∙ c.path.ensures in
    let read = slice_get_read c.args.files.now _ c.files.file-index c.file-item.result refl c.files-test.true c.file-item.is in
    subst (IsPlaceOf c.in_ok-copied.field-0 rows) (sym c.len-index.ensures)
    (subst (λ f. IsPlaceOf f rows (length rows)) (sym named) (opening_place c.args.files.now c.files.file-index c.file-item.result rows c.requires read c.files.invariant))
