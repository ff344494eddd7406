use Rattle.std.proofs.Common.{◌≡◌, ◌++◌, drop}
use Rattle.srb_judgement.specs.Variables.{all_caught}
use Rattle.srb_walk.specs.Known.{known_rescues}
use Rattle.srb_walk.proofs.assigned.all_caught.Given as goal

abbrev pub invariant-row : goal.invariant-row
invariant-row g l =
    l.found ++ all_caught (known_rescues (g.L.Language.the l.language) (drop l.clause-index l.row))
    ≡ l.fn.found ++ all_caught (known_rescues (g.L.Language.the l.language) l.row)
