use Rattle.std.proofs.Common.{◌≤◌, length, sym, ap, ◌∙◌, subst, arith}
use Rattle.std.specs.Prelude.{Ok, Err}
use Rattle.std.specs.Str.{chars}
use Rattle.lsp_docs.specs.declared.doc_end.DocEnd.TheVariants.{TooBig}
use Rattle.srb_text.specs.Limits.{MOST_BYTES}
use Rattle.lsp_docs.specs.Changes.{sized_text, sum_with}
use Rattle.lsp_docs.proofs.ApplyLemmas.{err_is}
use Rattle.lsp_docs.proofs.TextLemmas.{if_err_map, on_ok_map, plain_change, range_change, sized_big, sized_ok}
use Rattle.lsp_docs.proofs.changes.apply_change.Goals as goal

pub returns-in_err-text-in-None-clause-refused : goal.returns-in_err-text-in-None-clause-refused
returns-in_err-text-in-None-clause-refused c =
    let e = c.in_err-text-in-None.field-0.0 in
    let words = c.args.change.now.text in
    let size = ap length c.new_text.ensures.spelled in
    err_is c.from_residual.result e _ c.from_residual.ensures.1 (λ other.
    let why = c.in_err-text-in-None.ensures.refused other in
    ap (sized_text c.args.others) (plain_change c.args.encoding c.args.text.now c.args.change.now c.in-None.is)
    ∙ sized_big c.args.others (chars words) (omega (arith, size, why.1))
    ∙ ap (λ n. Err (TooBig n)) (omega (arith, size)) ∙ ap Err (sym why.0))

pub returns-in_ok-text-in-None-clause-changed : goal.returns-in_ok-text-in-None-clause-changed
returns-in_ok-text-in-None-clause-changed c =
    let words = c.args.change.now.text in
    let size = ap length c.new_text.ensures.spelled in
    ap (sized_text c.args.others) (plain_change c.args.encoding c.args.text.now c.args.change.now c.in-None.is)
    ∙ sized_ok c.args.others (chars words) (omega (arith, size, c.in_ok-text-in-None.ensures.fits))
    ∙ ap Ok (sym c.in_ok-text-in-None.ensures.made)

pub returns-in_ok-text-in-None-clause-fits : goal.returns-in_ok-text-in-None-clause-fits
returns-in_ok-text-in-None-clause-fits c =
    let size = ap length c.new_text.ensures.spelled in
    subst (λ t. sum_with c.args.others t ≤ MOST_BYTES) (sym c.in_ok-text-in-None.ensures.made) (omega (arith, size, c.in_ok-text-in-None.ensures.fits))

pub returns-in-Some-clause-changed : goal.returns-in-Some-clause-changed
returns-in-Some-clause-changed c =
    on_ok_map c.replace.result _ _
    (λ step. ap (sized_text c.args.others) (range_change c.args.encoding c.args.text.now c.args.change.now c.in-Some.from c.in-Some.to c.in-Some.is) ∙ step)
    c.replace.ensures.changed

pub returns-in-Some-clause-refused : goal.returns-in-Some-clause-refused
returns-in-Some-clause-refused c =
    if_err_map c.replace.result _ _
    (λ e step other. ap (sized_text c.args.others) (range_change c.args.encoding c.args.text.now c.args.change.now c.in-Some.from c.in-Some.to c.in-Some.is) ∙ step other)
    c.replace.ensures.refused
