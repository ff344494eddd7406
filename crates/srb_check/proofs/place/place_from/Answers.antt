use Rattle.std.proofs.Common.{◌+◌, ◌∙◌, sym, ap, drop, get_or, arith}
use Rattle.srb_check.specs.Reports.{moved}
use Rattle.srb_check.proofs.Places.{place_of-next, place_of-line, place_of-column}
use Rattle.srb_check.proofs.place.place_from.Goals as goal

pub moved-place-requires-clause-line : goal.moved-place-requires-clause-line
moved-place-requires-clause-line c = rw c.loop-at.invariant (omega (arith, place_of-line c.loop-at.at c.args.bytes.now))

pub moved-place-requires-clause-column : goal.moved-place-requires-clause-column
moved-place-requires-clause-column c = rw c.loop-at.invariant (omega (arith, place_of-column c.loop-at.at c.args.bytes.now))

pub loop-at-preserved : goal.loop-at-preserved
loop-at-preserved c =
    let at = c.loop-at.at in
    let bytes = c.args.bytes.now in
    c.moved-place.ensures.place
    ∙ ap (λ rest. moved c.loop-at.place (get_or bytes at 0) rest) c.after.ensures
    ∙ ap (λ p. moved p (get_or bytes at 0) (drop (at + 1) bytes)) c.loop-at.invariant
    ∙ sym (place_of-next at bytes 0 (omega arith))
