use Rattle.std.proofs.Common.{◌<◌, ◌-◌, ap, length, refl, sym, subst, ◌∙◌}
use Rattle.std.specs.Prelude.{Some, slice_get, vec_capacity, vec_len}
use Rattle.std.specs.Option.{option_map}
use Rattle.srb_terms.specs.PathMaps.{IsOrdered, PathList, with_value}
use Rattle.srb_terms.proofs.PathOrder.{IsOrdered-set_value, entry_read, set_value-is}
use Rattle.srb_terms.proofs.path_map.PathMap.value_mut.Goals as goal

pub invariant_of-self-lent : goal.invariant_of-self-lent
invariant_of-self-lent g c = λ w.
    let same = ap (λ (m : PathList _). m.entries) c.self.view_is in
    let within = subst (λ es. c.args.index < length es) (sym same) c.requires in
    subst IsOrdered (set_value-is _ c.args.index c.index_mut-entry.result.now w (entry_read _ c.args.index _ within c.index_mut-entry.ensures.value))
    (IsOrdered-set_value c.self.inside.entries.items c.args.index w c.self.invariant)

pub returns : goal.returns
returns g c =
    let same = ap (λ (m : PathList _). m.entries) c.self.view_is in
    let within = subst (λ es. c.args.index < length es) (sym same) c.requires in
    let here = entry_read _ c.args.index _ within c.index_mut-entry.ensures.value in (
      (
        refl,
        λ w. ap (λ es. record { entries = es; room = vec_capacity c.self.inside.entries - vec_len c.self.inside.entries }) (sym (set_value-is _ c.args.index c.index_mut-entry.result.now w here)) ∙ ap (λ m. with_value m c.args.index w) c.self.view_is,
      ),
      record {
        writes_back = tt;
        value = ap (λ es. option_map (λ e. e.1) (slice_get es c.args.index)) (sym same) ∙ ap (option_map (λ e. e.1)) here ∙ ap Some (sym c.value_mut.ensures.value);
      },
    )
