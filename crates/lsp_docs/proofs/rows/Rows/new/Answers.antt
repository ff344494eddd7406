use Rattle.std.proofs.Common.{◌≡◌, ◌+◌, List, ◌∷◌, [], ◌++◌, length, map, take, take_all, refl, sym, ap, ap₂, ◌∙◌, arith}
use Rattle.lsp_docs.specs.Projects.{total_bytes}
use Rattle.lsp_docs.specs.Rows.{Row, closed_row}
use Rattle.lsp_docs.proofs.RowsHold.{closed_holds, closed_is, closed_place, insert_at_end, map-take_next, total-take_le, total-take_next}
use Rattle.lsp_docs.proofs.rows.Rows.new.Goals as goal

pub files-init : goal.files-init
files-init c = (c.in_ok-map.ensures, refl)

pub insert-requires : goal.insert-requires
insert-requires c =
    let files = c.files-file-items.result.now in
    closed_place c.in_ok-copied.field-0 files c.args.files c.files.map.entries c.files.file-index c.len-count.result c.file-item.result
    c.files-file-items.ensures.files c.files-file-items.ensures.ordered c.files-test.true c.file-item.is (c.in_ok-copied.ensures ∙ c.path.ensures) c.files.invariant.0 c.len-count.ensures

pub overflow_add-total : goal.overflow_add-total
overflow_add-total c =
    let files = c.files-file-items.result.now in
    let next = total-take_next files c.files.file-index c.file-item.result c.files-test.true c.file-item.is in
    let most = total-take_le files (c.files.file-index + 1) in
    let bytes = ap length c.bytes-in-files.ensures in
    let all = ap total_bytes c.files-file-items.ensures.files in
    omega (arith, next, most, bytes, all, c.requires.bytes, c.files.invariant.1)

pub files-preserved : goal.files-preserved
files-preserved c =
    let files = c.files-file-items.result.now in
    let file = c.file-item.result in
    let row = closed_is c.in_ok-copied.field-0 c.in_ok-held_bytes.field-0 file (c.in_ok-copied.ensures ∙ c.path.ensures) (c.in_ok-held_bytes.ensures ∙ c.bytes.ensures) in
    let bytes = ap length c.bytes-in-files.ensures in
    let next = total-take_next files c.files.file-index file c.files-test.true c.file-item.is in (
      c.in_ok-insert.ensures.ok ∙ insert_at_end c.files.map.entries c.len-count.result _ c.len-count.ensures ∙ ap₂ (λ (l : List Row) r. l ++ r ∷ []) c.files.invariant.0 row
          ∙ sym (map-take_next closed_row files c.files.file-index file c.files-test.true c.file-item.is),
      omega (arith, bytes, next, c.files.invariant.1),
    )

pub invariant_of-result : goal.invariant_of-result
invariant_of-result c =
    let files = c.files-file-items.result.now in
    let all : take c.files.file-index files ≡ c.args.files = take_all c.files.file-index files c.files-test.false ∙ c.files-file-items.ensures.files in
    closed_holds c.args.files c.files.map.entries c.files.total c.requires.count c.requires.bytes
    (c.files.invariant.0 ∙ ap (map closed_row) all) (c.files.invariant.1 ∙ ap total_bytes all)

pub returns : goal.returns
returns c =
    let files = c.files-file-items.result.now in
    let all : take c.files.file-index files ≡ c.args.files = take_all c.files.file-index files c.files-test.false ∙ c.files-file-items.ensures.files in
    c.files.invariant.0 ∙ ap (map closed_row) all
