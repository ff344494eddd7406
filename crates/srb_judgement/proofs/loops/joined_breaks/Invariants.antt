use Rattle.std.proofs.Common.{◌≡◌, drop, map}
use Rattle.srb_judgement.specs.Loops.{joined_breaks}
use Rattle.srb_judgement.specs.Views.{seen_environment, seen_left}
use Rattle.srb_judgement.proofs.loops.joined_breaks.Given as goal

abbrev pub invariant-lefts : goal.invariant-lefts
invariant-lefts g l =
    joined_breaks (g.L.Language.the l.language) (seen_environment l.all) (map seen_left (drop l.left-index l.lefts))
    ≡ joined_breaks (g.L.Language.the l.language) (seen_environment l.fn.e) (map seen_left l.lefts)
