use Rattle.std.proofs.Common.{not, ap}
use Rattle.srb_shapes.specs.Comparing.{is_sub_of}
use Rattle.srb_shapes.specs.Lineages.{lineage_at}
use Rattle.srb_types.proofs.Filtering.{kept_step}
use Rattle.srb_types.proofs.unions.parts_beside.Goals as goal

pub parts-preserved : goal.parts-preserved
parts-preserved c =
    kept_step (λ p. not (is_sub_of (lineage_at c.args.w.now) p c.args.b.now)) c.args.parts.now c.parts.part-index c.part-item.result (not c.is_sub.result)
    c.parts.rest.items c.push_if.new.parts.items _ c.parts-test.true c.part-item.is
    (ap not c.is_sub.ensures) c.in_ok-push_if.ensures c.parts.invariant
