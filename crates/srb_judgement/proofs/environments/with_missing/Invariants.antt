use Rattle.std.proofs.Common.{◌≡◌, drop, flat_map}
use Rattle.srb_judgement.specs.Steps.{grown, missing}
use Rattle.srb_judgement.specs.Views.{seen_rows}
use Rattle.srb_judgement.proofs.environments.with_missing.Given as goal

abbrev pub invariant-others : goal.invariant-others
invariant-others g l =
    grown (seen_rows l.all.entries) (flat_map (missing (g.L.Language.the l.language) (seen_rows l.rows.entries)) (seen_rows (drop l.index l.others.entries)))
    ≡ grown (seen_rows l.fn.joined.entries) (flat_map (missing (g.L.Language.the l.language) (seen_rows l.rows.entries)) (seen_rows l.others.entries))
