use Rattle.std.proofs.Common.{None, ap, sym, ◌∙◌}
use Rattle.srb_terms.specs.Worlds.{value_of}
use Rattle.srb_judgement.specs.Steps.{pinned_after}
use Rattle.srb_judgement.specs.Views.{seen_rows}
use Rattle.srb_judgement.proofs.Steps.{pinned_append, pinned_live}
use Rattle.srb_judgement.proofs.contexts.pinned_all.Goals as goal

pub returns : goal.returns
returns g c = λ name.
    let L = g.L.Language.the c.args.language.now in
    let rows = seen_rows c.args.rows.now.entries in
    let recent = c.parts.result.0.now in
    let settled = c.parts.result.1.now in
    c.in_ok-pin_all.ensures name
    ∙ ap (λ own. pinned_after L rows settled name own) (c.in_ok-pin_list.ensures name)
    ∙ ap (λ es. pinned_after L rows settled name (pinned_after L rows recent name (value_of name es))) c.no_pins-layer.ensures
    ∙ pinned_append L rows recent settled name None
    ∙ ap (λ names. pinned_after L rows names name None) (sym c.parts.ensures)
    ∙ pinned_live L rows c.args.visible.now name
