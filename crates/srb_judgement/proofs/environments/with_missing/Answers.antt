use Rattle.std.proofs.Common.{suc, List, drop, flat_map, ap, sym, ◌∙◌, add-one}
use Rattle.srb_terms.specs.declared.ty.Ty.{Ty}
use Rattle.srb_judgement.specs.Environments.{Row}
use Rattle.srb_judgement.specs.Steps.{grown, missing}
use Rattle.srb_judgement.specs.Views.{seen_rows}
use Rattle.srb_judgement.proofs.Rows.{Entries, grown_next}
use Rattle.srb_judgement.proofs.environments.with_missing.Goals as goal

pub others-preserved : goal.others-preserved
others-preserved g c =
    let es : Entries = c.args.others.now.entries in
    let step : Row Ty → List (Row Ty) = missing (g.L.Language.the c.args.language.now) (seen_rows c.args.rows.now.entries) in
    rw add-one
    (ap (λ rows. grown rows (flat_map step (seen_rows (drop (suc c.others.index) es)))) c.in_ok-all.ensures
    ∙ sym (grown_next step (seen_rows c.others.all.entries) es c.others.index) ∙ c.others.invariant)
