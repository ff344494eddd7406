use Rattle.std.proofs.Common.{sym, ◌∙◌}
use Rattle.srb_shapes.specs.Lineages.{lineage_at}
use Rattle.srb_types.proofs.Joining.{one_stays}
use Rattle.srb_types.proofs.unions.first_outer.Goals as goal

pub rest-preserved : goal.rest-preserved
rest-preserved c =
    one_stays (lineage_at c.args.w.now) c.args.parts.now c.rest.rest.now c.p-item.result c.in-len1-up.len_at_least c.p-item.is
    (sym c.lies_in_one.ensures ∙ c.if-not-lies_in_one.false) ∙ c.rest.invariant
