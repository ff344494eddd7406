use Rattle.std.proofs.Common.{rules, of_calls, ap, sym, subst, ◌∙◌}
use Rattle.std.specs.Prelude.{IfOk, IfErr}
use Rattle.std.proofs.lemmas.Fn.{always_returns_same}
use Rattle.srb_terms.specs.PathMaps.{IsEntryOf, IsOrdered, IsPlaceOf, PathList, path_cmp}
use Rattle.srb_terms.proofs.PathOrder.{found_entry, absent_place}
use Rattle.srb_terms.proofs.path_map.PathMap.find.Goals as goal

pub returns-clause-found : goal.returns-clause-found
returns-clause-found g c =
    subst (λ es. IfOk c.binary_search_by.result (IsEntryOf c.args.path.now es)) (c.deref.ensures.value ∙ ap (λ (m : PathList _). m.entries) c.self.view_is)
    (found_entry c.args.path.now c.deref.result.now c.binary_search_by.result c.binary_search_by.ensures.bound
    (c.binary_search_by.ensures.position (λ e. path_cmp e.0 c.args.path.now) (always_returns_same _ _ _ (λ a r f k. search (rules, of_calls)))))

pub returns-clause-absent : goal.returns-clause-absent
returns-clause-absent g c =
    subst (λ es. IfErr c.binary_search_by.result (IsPlaceOf c.args.path.now es)) (c.deref.ensures.value ∙ ap (λ (m : PathList _). m.entries) c.self.view_is)
    (absent_place c.args.path.now c.deref.result.now c.binary_search_by.result (subst IsOrdered (sym c.deref.ensures.value) c.self.invariant) c.binary_search_by.ensures.bound
    (c.binary_search_by.ensures.position (λ e. path_cmp e.0 c.args.path.now) (always_returns_same _ _ _ (λ a r f k. search (rules, of_calls)))))
