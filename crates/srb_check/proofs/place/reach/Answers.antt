use Rattle.std.proofs.Common.{◌∙◌, arith}
use Rattle.srb_check.proofs.Places.{place_of-all, place_of-line, place_of-column}
use Rattle.srb_check.proofs.place.reach.Goals as goal

pub returns-clause-place : goal.returns-clause-place
returns-clause-place c = c.place_from.ensures ∙ place_of-all c.args.at c.args.bytes.now _ c.min-to.ensures

pub returns-clause-line : goal.returns-clause-line
returns-clause-line c = rw c.place_from.ensures (omega (arith, place_of-line c.min-to.result c.args.bytes.now))

pub returns-clause-column : goal.returns-clause-column
returns-clause-column c = rw c.place_from.ensures (omega (arith, place_of-column c.min-to.result c.args.bytes.now))
