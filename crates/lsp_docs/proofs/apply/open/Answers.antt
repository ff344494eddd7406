use Rattle.std.proofs.Common.{length, sym, ap, ap₂, ◌∙◌, arith}
use Rattle.std.specs.Prelude.{Err, encode_utf8_all}
use Rattle.srb_terms.proofs.PathOrder.{entry_within}
use Rattle.lsp_docs.specs.Rows.{opened_doc}
use Rattle.lsp_docs.proofs.RowsHold.{same_doc}
use Rattle.lsp_docs.proofs.ApplyLemmas.{err_is, has_text, opens_again, opens_again_big, room_in_row, text_size}
use Rattle.lsp_docs.proofs.apply.open.Goals as goal

pub others-requires : goal.others-requires
others-requires c = entry_within c.args.rows.now c.in-Ok.index _ c.in-Ok.ensures.found.1

pub returns-in_err-text-in-Ok-clause-refused : goal.returns-in_err-text-in-Ok-clause-refused
returns-in_err-text-in-Ok-clause-refused c =
    let found = c.in-Ok.ensures.found in
    let e = c.in_err-text-in-Ok.field-0.0 in
    err_is c.from_residual.result e _ c.from_residual.ensures.1 (λ other agreed.
    let why = c.in_err-text-in-Ok.ensures.refused other in
    opens_again_big agreed c.args.path.now c.args.rows.now c.in-Ok.index found.0 c.args.text.now c.others.result c.find.ensures.rows found.1
    (c.others.ensures.sum (c.args.path.now, found.0) found.1) why.1
    ∙ ap Err (sym why.0))

pub doc-requires : goal.doc-requires
doc-requires c = entry_within c.args.rows.now c.in-Ok.index _ c.in-Ok.ensures.found.1

pub returns-in_ok-opened-in-Ok-clause-planned : goal.returns-in_ok-opened-in-Ok-clause-planned
returns-in_ok-opened-in-Ok-clause-planned c = λ agreed.
    let found = c.in-Ok.ensures.found in
    let here = same_doc c.args.rows.now c.in-Ok.index c.doc.result.now (c.args.path.now, found.0) c.doc.ensures.doc found.1 in
    opens_again agreed c.args.path.now c.args.rows.now c.in-Ok.index found.0 c.in_ok-opened-in-Ok.field-0 c.args.text.now c.others.result c.find.ensures.rows found.1
    (c.in_ok-opened-in-Ok.ensures ∙ ap₂ opened_doc here c.in_ok-text-in-Ok.ensures.made)
    c.held_text.ensures.spelled (c.others.ensures.sum (c.args.path.now, found.0) found.1) c.in_ok-text-in-Ok.ensures.fits

pub returns-in_ok-opened-in-Ok-clause-room : goal.returns-in_ok-opened-in-Ok-clause-room
returns-in_ok-opened-in-Ok-clause-room c =
    let found = c.in-Ok.ensures.found in
    let size = text_size c.in_ok-opened-in-Ok.field-0 c.doc.result.now c.in_ok-text-in-Ok.text c.in_ok-opened-in-Ok.ensures ∙ ap (λ t. length (encode_utf8_all t)) c.in_ok-text-in-Ok.ensures.made ∙ ap length c.held_text.ensures.spelled in
    room_in_row c.args.path.now c.args.rows.now c.in-Ok.index found.0 c.in_ok-opened-in-Ok.field-0 c.others.result c.find.ensures.rows c.others.ensures.count found.1
    (has_text c.in_ok-opened-in-Ok.field-0 c.doc.result.now c.in_ok-text-in-Ok.text c.in_ok-opened-in-Ok.ensures) (c.others.ensures.sum (c.args.path.now, found.0) found.1)
    (omega (arith, size, c.in_ok-text-in-Ok.ensures.fits))
