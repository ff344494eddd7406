use Rattle.std.proofs.Common.{ap, sym, subst, ◌∙◌, insert, if◌then◌else◌}
use Rattle.std.specs.Result.{is_ok}
use Rattle.std.specs.Prelude.{slice_set}
use Rattle.srb_terms.specs.PathMaps.{IsOrdered, PathList}
use Rattle.srb_terms.proofs.PathOrder.{IsOrdered-put_value, inserted_keeps_order, place_in, put_between, put_in_place}
use Rattle.srb_terms.proofs.path_map.PathMap.put.Goals as goal

pub returns-in-Ok-clause-ok : goal.returns-in-Ok-clause-ok
returns-in-Ok-clause-ok g c =
    ap (slice_set c.self.inside.entries.items c.in-Ok.index) c.new.ensures
    ∙ put_in_place c.args.path _ c.args.value _ _ c.in-Ok.index c.as_str.ensures.text (ap (λ (m : PathList _). m.entries) c.self.view_is) c.self.invariant c.in-Ok.ensures.found

pub invariant_of-self : goal.invariant_of-self
invariant_of-self g c =
    subst IsOrdered (sym (returns-in-Ok-clause-ok g c)) (IsOrdered-put_value c.args.path c.args.value _ c.find.ensures.ordered)

pub invariant_of-self-in-Continue-1 : goal.invariant_of-self-in-Continue-1
invariant_of-self-in-Continue-1 g c =
    let items = c.self.inside.entries.items in
    inserted_keeps_order (is_ok c.insert.result) c.args.path c.args.value c.insert.new.self.items items c.in-Err.index
    (c.insert.ensures.items ∙ ap (λ e. if is_ok c.insert.result then insert items c.in-Err.index e else items) c.new-in-Err.ensures)
    (place_in c.args.path _ items _ c.in-Err.index c.as_str.ensures.text (ap (λ (m : PathList _). m.entries) c.self.view_is) c.in-Err.ensures.absent)
    c.self.invariant

pub returns-in_ok-insert-in-Err-clause-ok : goal.returns-in_ok-insert-in-Err-clause-ok
returns-in_ok-insert-in-Err-clause-ok g c =
    c.in_ok-insert-in-Err.ensures.items ∙ ap (insert c.self.inside.entries.items c.in-Err.index) c.new-in-Err.ensures
    ∙ put_between c.args.path _ c.args.value _ _ c.in-Err.index c.as_str.ensures.text (ap (λ (m : PathList _). m.entries) c.self.view_is) c.in-Err.ensures.absent
