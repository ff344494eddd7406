use Rattle.std.proofs.Common.{◌≡◌, [], drop, flat_map}
use Rattle.srb_judgement.specs.Steps.{grown, joining}
use Rattle.srb_judgement.specs.Views.{seen_rows}
use Rattle.srb_judgement.proofs.environments.joined_all.Given as goal

abbrev pub invariant-rows : goal.invariant-rows
invariant-rows g l =
    grown (seen_rows l.all.entries) (flat_map (joining (g.L.Language.the l.language) (seen_rows l.others.entries)) (seen_rows (drop l.index l.rows.entries)))
    ≡ grown [] (flat_map (joining (g.L.Language.the l.language) (seen_rows l.others.entries)) (seen_rows l.rows.entries))
