use Rattle.std.proofs.Common.{ap, ◌∙◌, arith}
use Rattle.srb_terms.proofs.PathOrder.{entry_within}
use Rattle.lsp_docs.specs.Rows.{agreed_on, opened_doc}
use Rattle.lsp_docs.proofs.RowsHold.{same_doc}
use Rattle.lsp_docs.proofs.ApplyLemmas.{err_is, has_text, open_size, changes_done, changes_refused, room_in_row, text_size}
use Rattle.lsp_docs.proofs.apply.change.Goals as goal

pub others-requires : goal.others-requires
others-requires c = entry_within c.args.rows.now c.in-Some.index _ c.in-Some.ensures.«open».here

pub changed-requires : goal.changed-requires
changed-requires c =
    let at = c.in-Some.ensures.«open» in
    let sum = c.others.ensures.sum (c.args.path.now, at.doc) at.here in
    let size = open_size at.doc c.in-Some.text.now at.with_text in
    let total = c.others.ensures.most in
    omega (arith, sum, size, total)

pub returns-in_err-text-clause-refused : goal.returns-in_err-text-clause-refused
returns-in_err-text-clause-refused c =
    let at = c.in-Some.ensures.«open» in
    let e = c.in_err-text.field-0.0 in
    err_is c.from_residual.result e _ c.from_residual.ensures.1 (λ other root.
    changes_refused (agreed_on root c.args.encoding) c.args.path.now c.args.rows.now c.in-Some.index c.in-Some.text.now c.args.changes.now c.others.result e c.find_open.ensures.rows at
    c.changed.ensures.spelled (c.others.ensures.sum (c.args.path.now, at.doc) at.here) (c.in_err-text.ensures.refused other))

pub doc-requires : goal.doc-requires
doc-requires c = entry_within c.args.rows.now c.in-Some.index _ c.in-Some.ensures.«open».here

pub returns-clause-planned : goal.returns-clause-planned
returns-clause-planned c = λ root.
    let at = c.in-Some.ensures.«open» in
    let here = same_doc c.args.rows.now c.in-Some.index c.doc.result.now (c.args.path.now, at.doc) c.doc.ensures.doc at.here in
    changes_done (agreed_on root c.args.encoding) c.args.path.now c.args.rows.now c.in-Some.index c.in-Some.text.now c.in_ok-text.text c.in_ok-opened.field-0 c.args.changes.now
    c.others.result c.find_open.ensures.rows at c.changed.ensures.spelled (c.others.ensures.sum (c.args.path.now, at.doc) at.here) (c.in_ok-text.ensures.changed)
    (c.in_ok-opened.ensures ∙ ap (λ d. opened_doc d c.in_ok-text.text) here)

pub returns-clause-room : goal.returns-clause-room
returns-clause-room c =
    let at = c.in-Some.ensures.«open» in
    let size = text_size c.in_ok-opened.field-0 c.doc.result.now c.in_ok-text.text c.in_ok-opened.ensures in
    room_in_row c.args.path.now c.args.rows.now c.in-Some.index at.doc c.in_ok-opened.field-0 c.others.result c.find_open.ensures.rows c.others.ensures.count at.here
    (has_text c.in_ok-opened.field-0 c.doc.result.now c.in_ok-text.text c.in_ok-opened.ensures) (c.others.ensures.sum (c.args.path.now, at.doc) at.here)
    (omega (arith, size, c.in_ok-text.ensures.fits))
