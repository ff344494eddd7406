use Rattle.std.proofs.Common.{suc, drop, flat_map, ap, sym, ◌∙◌, add-one}
use Rattle.srb_judgement.specs.Steps.{alone, grown}
use Rattle.srb_judgement.specs.Views.{seen_rows}
use Rattle.srb_judgement.proofs.Rows.{Entries, grown_next}
use Rattle.srb_judgement.proofs.environments.regrown.Goals as goal

pub rows-preserved : goal.rows-preserved
rows-preserved c =
    let es : Entries = c.args.rows.now.entries in
    rw add-one
    (ap (λ rows. grown rows (flat_map alone (seen_rows (drop (suc c.rows.index) es)))) c.in_ok-all.ensures
    ∙ sym (grown_next alone (seen_rows c.rows.all.entries) es c.rows.index) ∙ c.rows.invariant)
