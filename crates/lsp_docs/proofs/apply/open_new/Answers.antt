use Rattle.std.proofs.Common.{◌+◌, length, refl, sym, ap, ◌∙◌, arith}
use Rattle.std.specs.Prelude.{Err, encode_utf8_all}
use Rattle.lsp_docs.specs.declared.doc_end.DocEnd.TheVariants.{TooMany, TooBig}
use Rattle.lsp_docs.proofs.ApplyLemmas.{err_is, opens_many, opens_new, opens_new_big, room_in_new}
use Rattle.lsp_docs.proofs.apply.open_new.Goals as goal

pub returns-then-count-ge-FILES_LIMIT-clause-refused : goal.returns-then-count-ge-FILES_LIMIT-clause-refused
returns-then-count-ge-FILES_LIMIT-clause-refused c = λ other agreed.
    let count = ap length c.entries-count.ensures.entries in
    opens_many agreed c.args.path.now c.args.rows.now c.args.index c.args.text.now c.entries-count.ensures.rows c.requires (omega (arith, count, c.if-count-ge-FILES_LIMIT.true))
    ∙ ap (λ n. Err (TooMany n)) (sym count)

pub returns-in_err-text-clause-refused : goal.returns-in_err-text-clause-refused
returns-in_err-text-clause-refused c =
    let count = ap length c.entries-count.ensures.entries in
    let e = c.in_err-text.field-0.0 in
    err_is c.from_residual.result e _ c.from_residual.ensures.1 (λ other agreed.
    let why = c.in_err-text.ensures.refused other in
    let total = c.total.ensures.total in
    opens_new_big agreed c.args.path.now c.args.rows.now c.args.index c.args.text.now c.entries-count.ensures.rows c.requires (omega (arith, count, c.if-count-ge-FILES_LIMIT.false))
    (omega (arith, total, why.1))
    ∙ ap (λ n. Err (TooBig (n + length c.args.text.now))) (sym total) ∙ ap Err (sym why.0))

pub returns-clause-planned : goal.returns-clause-planned
returns-clause-planned c = λ agreed.
    let count = ap length c.entries-count.ensures.entries in
    let total = c.total.ensures.total in
    opens_new agreed c.args.path.now c.args.rows.now c.args.index c.in_ok-text.text c.args.text.now c.entries-count.ensures.rows c.requires
    (omega (arith, count, c.if-count-ge-FILES_LIMIT.false)) c.in_ok-text.ensures.made c.held_text.ensures.spelled (omega (arith, total, c.in_ok-text.ensures.fits))

pub returns-clause-room : goal.returns-clause-room
returns-clause-room c =
    let count = ap length c.entries-count.ensures.entries in
    let size = ap (λ t. length (encode_utf8_all t)) c.in_ok-text.ensures.made ∙ ap length c.held_text.ensures.spelled in
    room_in_new c.args.path.now c.args.rows.now c.args.index _ c.entries-count.ensures.rows c.requires (omega (arith, count, c.if-count-ge-FILES_LIMIT.false))
    refl (omega (arith, c.total.ensures.total, size, c.in_ok-text.ensures.fits))
