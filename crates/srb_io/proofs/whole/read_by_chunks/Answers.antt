use Rattle.std.proofs.Common.{ℕ, ◌≡◌, ◌∙◌, ◌+◌, ◌≤◌, length, arith}
use Rattle.std.proofs.lemmas.List.{length-take}
use Rattle.srb_io.proofs.Moved.{passed, ConsumesWithin-more}
use Rattle.srb_io.proofs.whole.read_by_chunks.Goals as goal

-- the read that passed the limit gave what was missing to one byte more
pub returns-then-n-most-clause-short : goal.returns-then-n-most-clause-short
returns-then-n-most-clause-short g c =
    let total : length c.loop-n.bytes.items + c.in-Ok.n ≡ c.args.most + 1 = omega (arith, c.in-Ok.ensures.within, c.read.auto.into, length-take {A = ℕ}) in
    let gave = passed _ _ _ _ _ _ _ c.in-Ok.ensures.within c.loop-n.invariant.consumed c.in-Ok.ensures.bytes.0 total in
    (gave.0, gave.1, c.in-Ok.ensures.cause ∙ c.loop-n.invariant.unfailed)

pub returns-then-is_err-clause-short : goal.returns-then-is_err-clause-short
returns-then-is_err-clause-short g c =
    let total : length c.loop-n.bytes.items + c.in-Ok.n ≤ c.args.most + 1 = omega (arith, c.in-Ok.ensures.within, c.read.auto.into, length-take {A = ℕ}) in (
      ConsumesWithin-more _ _ _ _ _ _ _ c.in-Ok.ensures.within c.loop-n.invariant.consumed c.in-Ok.ensures.bytes.0 total,
      c.in-Ok.ensures.cause ∙ c.loop-n.invariant.unfailed,
    )
