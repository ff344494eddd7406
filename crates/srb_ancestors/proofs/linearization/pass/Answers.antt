use Rattle.std.proofs.Common.{bytes_eq, arith}
use Rattle.indexmap.specs.IndexMap.{get}
use Rattle.srb_ancestors.proofs.PlaceProofs.{visited_more, visited_all}
use Rattle.srb_ancestors.proofs.linearization.pass.Goals as goal

pub rows-preserved : goal.rows-preserved
rows-preserved c =
    visited_more c.args.rows.now.entries (get bytes_eq c.args.rows.now) c.rows.index (get bytes_eq c.args.lists.now) (get bytes_eq c.rows.lists) (get bytes_eq c.visit.new.lists)
    c.rows.invariant c.in_ok-visit.ensures.closed c.in_ok-visit.ensures.visited

pub returns : goal.returns
returns c =
    visited_all c.args.rows.now.entries c.rows.index (get bytes_eq c.args.lists.now) (get bytes_eq c.rows.lists) (omega (arith, c.len-index-end.ensures.len)) c.rows.invariant
