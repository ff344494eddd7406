use Rattle.std.proofs.Common.{bytes_eq, ap, sym, ◌∙◌, Some}
use Rattle.std.proofs.lemmas.Result.{on_ok_weaker}
use Rattle.indexmap.specs.IndexMap.{get}
use Rattle.srb_ancestors.proofs.PlaceProofs.{closed_more, visited}
use Rattle.srb_ancestors.proofs.linearization.visit.Goals as goal

pub returns-in-Some-clause-closed : goal.returns-in-Some-clause-closed
returns-in-Some-clause-closed c =
    on_ok_weaker c.place.result
    (λ placed. closed_more c.in-Some.name.now c.as_slice.result.now (get bytes_eq c.args.lists.now) (get bytes_eq c.place.new.lists) c.requires placed)
    c.place.ensures

pub returns-in-Some-clause-visited : goal.returns-in-Some-clause-visited
returns-in-Some-clause-visited c =
    on_ok_weaker c.place.result
    (λ placed.
    visited c.args.rows.now.entries (get bytes_eq c.args.rows.now) c.args.index c.in-Some.name.now c.as_slice.result.now (get bytes_eq c.args.lists.now) (get bytes_eq c.place.new.lists)
    (sym c.in-Some.ensures.entry ∙ ap (λ row. Some (c.in-Some.name.now, row)) (sym c.as_slice.ensures))
    (c.in-Some.ensures.value ∙ ap Some (sym c.as_slice.ensures)) placed)
    c.place.ensures
