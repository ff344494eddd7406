use Rattle.std.proofs.Common.{length, sym, ap, ◌∙◌, arith}
use Rattle.std.specs.Prelude.{Err, is_some}
use Rattle.srb_terms.proofs.PathOrder.{entry_within}
use Rattle.lsp_docs.specs.declared.doc.Doc.{Doc}
use Rattle.lsp_docs.specs.declared.doc_end.DocEnd.TheVariants.{TooBig}
use Rattle.lsp_docs.specs.Rows.{Row, closed_doc, present_of, size_of}
use Rattle.lsp_docs.proofs.RowsHold.{same_doc}
use Rattle.lsp_docs.proofs.ApplyLemmas.{closes_big, closes_back, closes_away, room_in_none, room_in_row}
use Rattle.lsp_docs.proofs.apply.close.Goals as goal

pub doc-requires : goal.doc-requires
doc-requires c = entry_within c.args.rows.now c.in-Some.index _ c.in-Some.ensures.«open».here

pub others-others-requires : goal.others-others-requires
others-others-requires c = entry_within c.args.rows.now c.in-Some.index _ c.in-Some.ensures.«open».here

pub returns-then-size-gt-BYTES_LIMIT-clause-refused : goal.returns-then-size-gt-BYTES_LIMIT-clause-refused
returns-then-size-gt-BYTES_LIMIT-clause-refused c = λ other agreed.
    let at = c.in-Some.ensures.«open» in
    let row : Row = (c.args.path.now, at.doc) in
    let size = ap size_of (ap (λ (d : Doc). d.saved) (sym (same_doc c.args.rows.now c.in-Some.index c.doc.result.now row c.doc.ensures.doc at.here)) ∙ c.in-Some-saved.is) in
    let len = ap length (c.as_slice.ensures ∙ c.get.ensures) in
    closes_big agreed c.args.path.now c.args.rows.now c.in-Some.index c.in-Some.field-0-1.now c.others-others.result c.find_open.ensures.rows at
    (c.others-others.ensures.sum row at.here) (omega (arith, size, len, c.if-size-gt-BYTES_LIMIT.true))
    ∙ ap (λ n. Err (TooBig n)) (omega (arith, size, len))

pub doc-requires-in-Some-saved : goal.doc-requires-in-Some-saved
doc-requires-in-Some-saved c = entry_within c.args.rows.now c.in-Some.index _ c.in-Some.ensures.«open».here

pub returns-in_ok-closed-in-Some-saved-clause-planned : goal.returns-in_ok-closed-in-Some-saved-clause-planned
returns-in_ok-closed-in-Some-saved-clause-planned c = λ agreed.
    let at = c.in-Some.ensures.«open» in
    let row : Row = (c.args.path.now, at.doc) in
    let size = ap size_of (ap (λ (d : Doc). d.saved) (sym (same_doc c.args.rows.now c.in-Some.index c.doc.result.now row c.doc.ensures.doc at.here)) ∙ c.in-Some-saved.is) in
    let len = ap length (c.as_slice.ensures ∙ c.get.ensures) in
    let here = same_doc c.args.rows.now c.in-Some.index c.doc-in-Some-saved.result.now row c.doc-in-Some-saved.ensures.doc at.here in
    closes_back agreed c.args.path.now c.args.rows.now c.in-Some.index c.in-Some.field-0-1.now c.in_ok-closed-in-Some-saved.field-0 c.others-others.result c.find_open.ensures.rows at
    (c.others-others.ensures.sum row at.here) (omega (arith, size, len, c.if-size-gt-BYTES_LIMIT.false)) (c.in_ok-closed-in-Some-saved.ensures ∙ ap (λ (d : Doc). closed_doc d.saved) here)

pub returns-in_ok-closed-in-Some-saved-clause-room : goal.returns-in_ok-closed-in-Some-saved-clause-room
returns-in_ok-closed-in-Some-saved-clause-room c =
    let at = c.in-Some.ensures.«open» in
    let row : Row = (c.args.path.now, at.doc) in
    let saved = ap (λ (d : Doc). d.saved) (sym (same_doc c.args.rows.now c.in-Some.index c.doc.result.now row c.doc.ensures.doc at.here)) ∙ c.in-Some-saved.is in
    let len = ap length (c.as_slice.ensures ∙ c.get.ensures) in
    let here = same_doc c.args.rows.now c.in-Some.index c.doc-in-Some-saved.result.now row c.doc-in-Some-saved.ensures.doc at.here in
    let is = c.in_ok-closed-in-Some-saved.ensures ∙ ap (λ (d : Doc). closed_doc d.saved) here ∙ ap closed_doc saved in
    let size = ap (λ d. size_of (present_of d)) is in
    room_in_row c.args.path.now c.args.rows.now c.in-Some.index at.doc c.in_ok-closed-in-Some-saved.field-0 c.others-others.result c.find_open.ensures.rows c.others-others.ensures.count at.here
    (ap (λ d. is_some (present_of d)) is) (c.others-others.ensures.sum row at.here) (omega (arith, size, len, c.if-size-gt-BYTES_LIMIT.false))

pub returns-in-None-clause-planned : goal.returns-in-None-clause-planned
returns-in-None-clause-planned c = λ agreed.
    let at = c.in-Some.ensures.«open» in
    let rows = c.args.rows.now in
    let row : Row = (c.args.path.now, at.doc) in
    closes_away agreed c.args.path.now rows c.in-Some.index c.in-Some.field-0-1.now c.others-others.result c.find_open.ensures.rows at
    (c.others-others.ensures.sum row at.here) c.others-others.ensures.bound (ap (λ (d : Doc). d.saved) (sym (same_doc c.args.rows.now c.in-Some.index c.doc.result.now row c.doc.ensures.doc at.here)) ∙ c.in-None.is)

pub returns-in-None-clause-room : goal.returns-in-None-clause-room
returns-in-None-clause-room c =
    let at = c.in-Some.ensures.«open» in
    room_in_none c.args.path.now c.args.rows.now c.in-Some.index at.doc c.find_open.ensures.rows c.others-others.ensures.count at.here c.others-others.ensures.most
