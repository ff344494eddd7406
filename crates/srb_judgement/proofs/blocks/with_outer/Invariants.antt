use Rattle.std.proofs.Common.{◌≡◌, drop}
use Rattle.srb_judgement.specs.Steps.{outer_after}
use Rattle.srb_judgement.proofs.blocks.with_outer.Given as goal

abbrev pub invariant-rows : goal.invariant-rows
invariant-rows l =
    outer_after l.context l.parameters l.all (drop l.row-index l.rows) ≡ outer_after l.context l.parameters l.fn.before l.rows
