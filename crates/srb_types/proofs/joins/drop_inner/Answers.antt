use Rattle.std.proofs.Common.{ap, sym, ◌∙◌}
use Rattle.std.specs.List.{list_any}
use Rattle.srb_shapes.specs.Comparing.{lies_in}
use Rattle.srb_shapes.specs.Lineages.{lineage_at}
use Rattle.srb_types.proofs.Filtering.{none_dropped}
use Rattle.srb_types.proofs.joins.drop_inner.Goals as goal

pub returns-else-has_inner-clause-parts : goal.returns-else-has_inner-clause-parts
returns-else-has_inner-clause-parts c =
    none_dropped (λ q. lies_in (lineage_at c.args.w.now) q c.args.p.now) c.args.parts.now.items
    (ap (list_any (λ q. lies_in (lineage_at c.args.w.now) q c.args.p.now)) (sym c.as_slice.ensures.value)
    ∙ sym c.has_inner.ensures ∙ c.if-has_inner.false)
