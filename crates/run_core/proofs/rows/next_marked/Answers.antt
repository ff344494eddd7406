use Rattle.std.proofs.Common.{refl, sym, ap, ◌∙◌, arith}
use Rattle.std.proofs.lemmas.Option.{slice_get_read}
use Rattle.run_core.specs.Rows.{has_mark}
use Rattle.run_core.proofs.RowIndexes.{first_marked-here, first_marked-past, first_marked-within}
use Rattle.run_core.proofs.rows.next_marked.Goals as goal

pub returns-then-has_mark : goal.returns-then-has_mark
returns-then-has_mark c =
    let read = slice_get_read _ _ _ _ refl c.rows-test.true c.index-rows-index.is in
    first_marked-here _ _ _ _ c.rows.invariant read (sym (ap (has_mark c.args.mark) c.value.ensures) ∙ sym c.has_mark.ensures ∙ c.if-has_mark.true)

pub rows-preserved : goal.rows-preserved
rows-preserved c =
    let read = slice_get_read _ _ _ _ refl c.rows-test.true c.index-rows-index.is in
    let past = first_marked-past _ _ _ _ c.rows.invariant read (sym (ap (has_mark c.args.mark) c.value.ensures) ∙ sym c.has_mark.ensures ∙ c.if-has_mark.false) in
    omega (arith, past)

pub returns : goal.returns
returns c = let within = first_marked-within c.args.mark c.args.rows.now in omega (arith, within, c.rows.invariant, c.rows-test.false)
