use Rattle.std.proofs.Common.{not, ap}
use Rattle.srb_shapes.specs.Lineages.{lineage_at}
use Rattle.srb_types.specs.Normal.{is_under}
use Rattle.srb_types.proofs.Filtering.{kept_step}
use Rattle.srb_types.proofs.names.names_beside.Goals as goal

pub names-preserved : goal.names-preserved
names-preserved c =
    kept_step (λ d. not (is_under (lineage_at c.args.w.now) c.args.c.now d)) c.args.names.now c.names.name-index c.name-item.result
    (not c.is_under.result) c.names.rest.items c.push_if.new.names.items _ c.names-test.true c.name-item.is
    (ap not c.is_under.ensures) c.in_ok-push_if.ensures c.names.invariant
