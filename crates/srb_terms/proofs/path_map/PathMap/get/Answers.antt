use Rattle.std.proofs.Common.{◌<◌, ap, length, sym, subst, ◌∙◌}
use Rattle.std.specs.Prelude.{Some, slice_get}
use Rattle.std.specs.Option.{option_map}
use Rattle.srb_terms.specs.PathMaps.{PathList}
use Rattle.srb_terms.proofs.PathOrder.{entry_read, entry_within, value_at-absent, value_at-here}
use Rattle.srb_terms.proofs.path_map.PathMap.get.Goals as goal

pub returns-in-Ok : goal.returns-in-Ok
returns-in-Ok g c =
    let found = c.in-Ok.ensures.found in
    let same = ap (λ (m : PathList _). m.entries) c.self.view_is in
    let within = subst (λ es. c.in-Ok.index < length es) (sym same) (entry_within _ c.in-Ok.index _ found.1) in
    let here = ap (λ es. slice_get es c.in-Ok.index) (sym same) ∙ entry_read _ c.in-Ok.index _ within c.index.ensures in
    ap Some c.value.ensures ∙ sym (ap (option_map (λ e. e.1)) here) ∙ ap (option_map (λ e. e.1)) found.1
    ∙ sym (value_at-here c.args.path.now _ c.in-Ok.index found.0 c.in-Ok.ensures.ordered found.1)

pub returns-in-Err : goal.returns-in-Err
returns-in-Err g c = sym (value_at-absent c.args.path.now _ c.in-Err.field-0 c.in-Err.ensures.absent)
