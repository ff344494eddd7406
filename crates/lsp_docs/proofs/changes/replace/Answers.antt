use Rattle.std.proofs.Common.{◌≤◌, sym, ap, length, ◌∙◌, subst, arith}
use Rattle.std.specs.Prelude.{Ok, Err}
use Rattle.std.specs.Str.{chars}
use Rattle.srb_text.specs.Edits.{edited}
use Rattle.srb_text.specs.Positions.{byte_len, weight_of}
use Rattle.srb_text.proofs.LawLemmas.{edits_have_sizes}
use Rattle.srb_text.proofs.SpellingLemmas.{length-encodes}
use Rattle.srb_text.proofs.TransferLemmas.{start_within}
use Rattle.lsp_docs.specs.declared.doc_end.DocEnd.TheVariants.{TooBig}
use Rattle.lsp_docs.specs.Changes.{sized_text, sum_with}
use Rattle.srb_text.specs.Limits.{MOST_BYTES}
use Rattle.lsp_docs.proofs.TextLemmas.{between_ok, range_sum, sized_big, sized_ok}
use Rattle.lsp_docs.proofs.changes.replace.Goals as goal

pub overflow_sub-size-2 : goal.overflow_sub-size-2
overflow_sub-size-2 c =
    omega (arith, start_within c.args.text.now c.offset-end.result c.offset-end.ensures.start, c.as_str.ensures.len)

pub returns-then-size-gt-BYTES_LIMIT-clause-refused : goal.returns-then-size-gt-BYTES_LIMIT-clause-refused
returns-then-size-gt-BYTES_LIMIT-clause-refused c = λ other.
    let within = start_within c.args.text.now c.offset-end.result c.offset-end.ensures.start in
    let sum = range_sum c.args.encoding c.args.text.now c.args.from c.args.to c.args.words.now c.args.others (length c.as_str.result.now) c.offset-start.result c.offset-end.result
    edits_have_sizes c.as_bytes.ensures.utf8 c.offset-start.ensures.offset c.offset-end.ensures.offset c.if-end-start.false (omega (arith, within, c.as_str.ensures.len)) c.as_str.ensures.len in
    let words = ap length c.as_bytes.ensures.bytes in
    let new = edited (weight_of c.args.encoding) c.args.text.now c.args.from c.args.to (chars c.args.words.now) in
    ap (sized_text c.args.others) (between_ok c.args.encoding c.args.text.now c.args.from c.args.to (chars c.args.words.now) (omega (arith, c.offset-start.ensures.offset, c.offset-end.ensures.offset, c.if-end-start.false)))
    ∙ sized_big c.args.others new (omega (arith, sum, words, c.if-size-gt-BYTES_LIMIT.true))
    ∙ ap (λ n. Err (TooBig n)) (omega (arith, sum, words))

pub splice-requires : goal.splice-requires
splice-requires c = λ ordered.
    let within = start_within c.args.text.now c.offset-end.result c.offset-end.ensures.start in
    let sum = range_sum c.args.encoding c.args.text.now c.args.from c.args.to c.args.words.now c.args.others (length c.as_str.result.now) c.offset-start.result c.offset-end.result
    edits_have_sizes c.as_bytes.ensures.utf8 c.offset-start.ensures.offset c.offset-end.ensures.offset c.if-end-start.false (omega (arith, within, c.as_str.ensures.len)) c.as_str.ensures.len in
    let words = ap length c.as_bytes.ensures.bytes in
    let size = length-encodes (edited (weight_of c.args.encoding) c.args.text.now c.args.from c.args.to (chars c.args.words.now)) in
    subst (λ w. byte_len (edited (weight_of c.args.encoding) c.args.text.now c.args.from c.args.to (chars w)) ≤ 16777216) (sym c.as_str-2.ensures.text)
    (omega (arith, sum, words, size, c.if-size-gt-BYTES_LIMIT.false))

pub returns-in-Ok-clause-changed : goal.returns-in-Ok-clause-changed
returns-in-Ok-clause-changed c =
    let within = start_within c.args.text.now c.offset-end.result c.offset-end.ensures.start in
    let sum = range_sum c.args.encoding c.args.text.now c.args.from c.args.to c.args.words.now c.args.others (length c.as_str.result.now) c.offset-start.result c.offset-end.result
    edits_have_sizes c.as_bytes.ensures.utf8 c.offset-start.ensures.offset c.offset-end.ensures.offset c.if-end-start.false (omega (arith, within, c.as_str.ensures.len)) c.as_str.ensures.len in
    let words = ap length c.as_bytes.ensures.bytes in
    let new = edited (weight_of c.args.encoding) c.args.text.now c.args.from c.args.to (chars c.args.words.now) in
    ap (sized_text c.args.others) (between_ok c.args.encoding c.args.text.now c.args.from c.args.to (chars c.args.words.now) c.in-Ok.ensures.ordered)
    ∙ sized_ok c.args.others new (omega (arith, sum, words, c.if-size-gt-BYTES_LIMIT.false))
    ∙ ap Ok (ap (λ w. edited (weight_of c.args.encoding) c.args.text.now c.args.from c.args.to (chars w)) (sym c.as_str-2.ensures.text) ∙ sym c.in-Ok.ensures.edited)

pub returns-in-Ok-clause-fits : goal.returns-in-Ok-clause-fits
returns-in-Ok-clause-fits c =
    let within = start_within c.args.text.now c.offset-end.result c.offset-end.ensures.start in
    let sum = range_sum c.args.encoding c.args.text.now c.args.from c.args.to c.args.words.now c.args.others (length c.as_str.result.now) c.offset-start.result c.offset-end.result
    edits_have_sizes c.as_bytes.ensures.utf8 c.offset-start.ensures.offset c.offset-end.ensures.offset c.if-end-start.false (omega (arith, within, c.as_str.ensures.len)) c.as_str.ensures.len in
    let words = ap length c.as_bytes.ensures.bytes in
    subst (λ t. sum_with c.args.others t ≤ MOST_BYTES) (ap (λ w. edited (weight_of c.args.encoding) c.args.text.now c.args.from c.args.to (chars w)) (sym c.as_str-2.ensures.text) ∙ sym c.in-Ok.ensures.edited)
    (omega (arith, sum, words, c.if-size-gt-BYTES_LIMIT.false))
