use Rattle.std.proofs.Common.{not, ap}
use Rattle.srb_shapes.specs.Comparing.{lies_in}
use Rattle.srb_shapes.specs.Lineages.{lineage_at}
use Rattle.srb_types.proofs.Filtering.{kept_step}
use Rattle.srb_types.proofs.parts.outer_parts.Goals as goal

pub parts-preserved : goal.parts-preserved
parts-preserved c =
    kept_step (λ q. not (lies_in (lineage_at c.args.w.now) q c.args.p.now)) c.args.parts.now c.parts.part-index c.part-item.result (not c.lies_in.result)
    c.parts.rest.items c.push_if.new.parts.items _ c.parts-test.true c.part-item.is
    (ap not c.lies_in.ensures) c.in_ok-push_if.ensures c.parts.invariant
