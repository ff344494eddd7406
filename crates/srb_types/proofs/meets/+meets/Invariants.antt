use Rattle.std.proofs.Common.{◌≡◌, drop}
use Rattle.srb_shapes.specs.Lineages.{lineage_at}
use Rattle.srb_types.specs.Normal.{meet_parts, meets_each, meets_of, with_meets}
use Rattle.srb_types.proofs.meets.+meets.Given as goal

abbrev pub invariant-add_each-parts : goal.invariant-add_each-parts
invariant-add_each-parts l =
    meets_each (meets_of (lineage_at l.w)) (drop l.p-index l.ps) l.others l.found.items
    ≡ meets_each (meets_of (lineage_at l.w)) l.ps l.others l.fn.found.items

abbrev pub invariant-add_row-others : goal.invariant-add_row-others
invariant-add_row-others l =
    with_meets (lineage_at l.w) (meet_parts (lineage_at l.w) l.p) (drop l.other-index l.others) l.found.items
    ≡ with_meets (lineage_at l.w) (meet_parts (lineage_at l.w) l.p) l.others l.fn.found.items
