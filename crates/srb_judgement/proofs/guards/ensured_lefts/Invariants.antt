use Rattle.std.proofs.Common.{◌≡◌, map, take}
use Rattle.srb_judgement.specs.Guards.{ensured_left}
use Rattle.srb_judgement.specs.Views.{seen_left, seen_rows}
use Rattle.srb_judgement.proofs.guards.ensured_lefts.Given as goal

abbrev pub invariant-lefts : goal.invariant-lefts
invariant-lefts g l =
    map seen_left l.all
    ≡ map (ensured_left (g.L.Language.the l.language) l.names (seen_rows l.ensured.entries)) (map seen_left (take l.left-index l.lefts))
