use Rattle.std.proofs.Common.{◌≡◌, drop, map}
use Rattle.srb_judgement.specs.Blocks.{left_type}
use Rattle.srb_judgement.specs.Types.{any_after}
use Rattle.srb_judgement.specs.Views.{seen_left}
use Rattle.srb_judgement.proofs.loops.any_left.Given as goal

abbrev pub invariant-lefts : goal.invariant-lefts
invariant-lefts g l =
    any_after (g.L.Language.the l.language) l.all (map left_type (map seen_left (drop l.left-index l.lefts)))
    ≡ any_after (g.L.Language.the l.language) l.fn.so_far (map left_type (map seen_left l.lefts))
