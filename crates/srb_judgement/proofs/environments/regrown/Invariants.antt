use Rattle.std.proofs.Common.{◌≡◌, [], drop, flat_map}
use Rattle.srb_judgement.specs.Steps.{alone, grown}
use Rattle.srb_judgement.specs.Views.{seen_rows}
use Rattle.srb_judgement.proofs.environments.regrown.Given as goal

abbrev pub invariant-rows : goal.invariant-rows
invariant-rows l =
    grown (seen_rows l.all.entries) (flat_map alone (seen_rows (drop l.index l.rows.entries)))
    ≡ grown [] (flat_map alone (seen_rows l.rows.entries))
