use Rattle.std.proofs.Common.{ap, ◌∙◌}
use Rattle.srb_terms.proofs.PathOrder.{entry_within}
use Rattle.lsp_docs.specs.Rows.{saved_doc}
use Rattle.lsp_docs.proofs.RowsHold.{same_doc}
use Rattle.lsp_docs.proofs.ApplyLemmas.{saves_done, room_as_present}
use Rattle.lsp_docs.proofs.apply.save.Goals as goal

pub doc-requires : goal.doc-requires
doc-requires c = entry_within c.args.rows.now c.in-Some.index _ c.in-Some.ensures.«open».here

pub returns-clause-planned : goal.returns-clause-planned
returns-clause-planned c = λ agreed.
    let at = c.in-Some.ensures.«open» in
    let here = same_doc c.args.rows.now c.in-Some.index c.doc.result.now (c.args.path.now, at.doc) c.doc.ensures.doc at.here in
    saves_done agreed c.args.path.now c.args.rows.now c.in-Some.index c.in-Some.text.now c.in_ok-bytes.bytes c.in_ok-saved_as.field-0 c.find_open.ensures.rows at
    (c.in_ok-bytes.ensures ∙ c.as_bytes.ensures.value ∙ c.as_str.ensures.bytes) (c.in_ok-saved_as.ensures ∙ ap (λ d. saved_doc d c.in_ok-bytes.bytes) here)

pub returns-clause-room : goal.returns-clause-room
returns-clause-room c =
    let at = c.in-Some.ensures.«open» in
    let here = same_doc c.args.rows.now c.in-Some.index c.doc.result.now (c.args.path.now, at.doc) c.doc.ensures.doc at.here in
    room_as_present c.args.path.now c.args.rows.now c.in-Some.index c.in-Some.text.now c.in_ok-bytes.bytes c.in_ok-saved_as.field-0 c.find_open.ensures.rows c.find_open.ensures.count
    c.find_open.ensures.bytes at (c.in_ok-saved_as.ensures ∙ ap (λ d. saved_doc d c.in_ok-bytes.bytes) here)
