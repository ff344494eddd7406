use Rattle.std.proofs.Common.{◌≡◌, drop, map}
use Rattle.srb_judgement.specs.Guards.{with_assigned}
use Rattle.srb_judgement.specs.Views.{seen_row, seen_rows}
use Rattle.srb_judgement.proofs.guards.with_assigned.Given as goal

abbrev pub invariant-assigned : goal.invariant-assigned
invariant-assigned g l =
    with_assigned (g.L.Language.the l.language) (seen_rows l.all.entries) (map seen_row (drop l.row-index l.assigned))
    ≡ with_assigned (g.L.Language.the l.language) (seen_rows l.fn.rows.entries) (map seen_row l.assigned)
