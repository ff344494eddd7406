use Rattle.srb_io.proofs.Listed.{AreInOrder-sorted, is_among-sorted}
use Rattle.srb_io.proofs.listing.in_order.Goals as goal

pub returns-clause-ordered : goal.returns-clause-ordered
returns-clause-ordered c = AreInOrder-sorted _ _ c.in_ok-sort.ensures.sorted c.dedup.ensures.filtered

pub returns-clause-same : goal.returns-clause-same
returns-clause-same c = is_among-sorted _ _ _ c.in_ok-sort.ensures.permutation c.dedup.ensures.filtered
