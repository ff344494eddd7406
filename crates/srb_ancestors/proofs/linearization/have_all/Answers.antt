use Rattle.std.proofs.Common.{bytes_eq, arith}
use Rattle.indexmap.specs.IndexMap.{get}
use Rattle.srb_ancestors.proofs.PlaceProofs.{all_made}
use Rattle.srb_ancestors.proofs.linearization.have_all.Goals as goal

pub returns : goal.returns
returns c = λ yes.
    all_made c.args.rows.now.entries c.rows.index (get bytes_eq c.args.lists.now) (omega (arith, c.len-index-end.ensures.len)) c.rows.invariant
