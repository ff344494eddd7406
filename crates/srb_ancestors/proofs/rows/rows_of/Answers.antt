use Rattle.std.proofs.Common.{bytes_eq, arith}
use Rattle.indexmap.specs.IndexMap.{get}
use Rattle.srb_ancestors.proofs.RowProofs.{all_added}
use Rattle.srb_ancestors.proofs.rows.rows_of.Goals as goal

pub returns : goal.returns
returns c = all_added (get bytes_eq c.links.rows) c.args.links.now c.links.link-index (omega arith) c.links.invariant
