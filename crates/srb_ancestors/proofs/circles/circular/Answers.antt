use Rattle.srb_rules.specs.Links.{is_circular, circular_links}
use Rattle.srb_ancestors.proofs.CircleProofs.{linked_at, found_more}
use Rattle.srb_ancestors.proofs.circles.circular.Goals as goal

pub links-preserved : goal.links-preserved
links-preserved c =
    found_more (is_circular c.as_slice-links.result.now) c.links.found c.add_circular.new.found (circular_links c.as_slice-links.result.now) c.as_slice-links.result.now c.links.link-index c.link-item.result
    c.links-test.true c.link-item.is c.links.invariant
    (c.in_ok-add_circular.ensures c.as_slice-links.result.now c.in_ok-rows.ensures (c.in_ok-settled.ensures c.as_slice-links.result.now c.in_ok-rows.ensures)
    (linked_at c.as_slice-links.result.now c.links.link-index c.link-item.result c.links-test.true c.link-item.is))
