use Rattle.std.proofs.Common.{ap, refl, ◌∙◌, insert, if◌then◌else◌}
use Rattle.std.specs.Result.{is_ok}
use Rattle.srb_terms.specs.PathMaps.{PathList}
use Rattle.srb_terms.proofs.PathOrder.{inserted_keeps_order, place_in}
use Rattle.srb_terms.proofs.path_map.PathMap.insert_within.Goals as goal

pub invariant_of-self : goal.invariant_of-self
invariant_of-self g c =
    let items = c.self.inside.entries.items in
    inserted_keeps_order (is_ok c.insert.result) c.args.path c.args.value c.insert.new.self.items items c.args.index
    (c.insert.ensures.items ∙ ap (λ e. if is_ok c.insert.result then insert items c.args.index e else items) c.new.ensures)
    (place_in c.args.path c.args.path items _ c.args.index refl (ap (λ (m : PathList _). m.entries) c.self.view_is) c.requires.place)
    c.self.invariant
