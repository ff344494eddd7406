use Rattle.std.proofs.Common.{bytes_eq, sym, ◌∙◌}
use Rattle.indexmap.specs.IndexMap.{get}
use Rattle.srb_ancestors.proofs.PlaceProofs.{absent_where_new}
use Rattle.srb_ancestors.proofs.linearization.place.Goals as goal

pub list_of-requires : goal.list_of-requires
list_of-requires c = λ d end.
    absent_where_new (get bytes_eq c.args.lists.now) c.args.name.now d c.requires (sym c.contains_key.ensures ∙ c.if-contains_key.false)
