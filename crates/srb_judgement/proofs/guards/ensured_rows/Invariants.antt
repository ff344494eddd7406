use Rattle.std.proofs.Common.{◌≡◌, drop}
use Rattle.srb_judgement.specs.Guards.{ensured_rows}
use Rattle.srb_judgement.specs.Views.{seen_rows}
use Rattle.srb_judgement.proofs.guards.ensured_rows.Given as goal

abbrev pub invariant-names : goal.invariant-names
invariant-names g l =
    ensured_rows (g.L.Language.the l.language) (drop l.name-index l.names) (seen_rows l.ensured.entries) (seen_rows l.all.entries)
    ≡ ensured_rows (g.L.Language.the l.language) l.names (seen_rows l.ensured.entries) (seen_rows l.fn.rows.entries)
