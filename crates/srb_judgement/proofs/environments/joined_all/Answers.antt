use Rattle.std.proofs.Common.{suc, List, drop, flat_map, ap, sym, ◌∙◌, add-one}
use Rattle.srb_terms.specs.declared.ty.Ty.{Ty}
use Rattle.srb_judgement.specs.Environments.{Row}
use Rattle.srb_judgement.specs.Steps.{grown, joining}
use Rattle.srb_judgement.specs.Views.{seen_rows}
use Rattle.srb_judgement.proofs.Rows.{Entries, grown_next}
use Rattle.srb_judgement.proofs.environments.joined_all.Goals as goal

pub rows-preserved : goal.rows-preserved
rows-preserved g c =
    let es : Entries = c.args.rows.now.entries in
    let step : Row Ty → List (Row Ty) = joining (g.L.Language.the c.args.language.now) (seen_rows c.args.others.now.entries) in
    rw add-one
    (ap (λ rows. grown rows (flat_map step (seen_rows (drop (suc c.rows.index) es)))) c.in_ok-all.ensures
    ∙ sym (grown_next step (seen_rows c.rows.all.entries) es c.rows.index) ∙ c.rows.invariant)
