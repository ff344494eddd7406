use Rattle.std.proofs.Common.{bytes_eq}
use Rattle.indexmap.specs.IndexMap.{get}
use Rattle.srb_ancestors.proofs.PlaceProofs.{are_lins, nothing_right}
use Rattle.srb_ancestors.proofs.linearization.lists.Goals as goal

pub order-preserved : goal.order-preserved
order-preserved c = record {
  closed = c.in_ok-visit.ensures.closed;
  right = λ ls rows none right. c.in_ok-visit.ensures.visited.right ls rows none (c.order.invariant.right ls rows none right);
}

pub returns : goal.returns
returns c = λ ls rows count none.
    are_lins ls (get bytes_eq c.fill.new.lists)
    (c.in_ok-fill.ensures.right ls rows none (c.order.invariant.right ls rows none (nothing_right ls)))
    (c.in_ok-fill.ensures.made ls rows count none)
