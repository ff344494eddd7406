use Rattle.std.proofs.Common.{bytes_eq}
use Rattle.indexmap.specs.IndexMap.{get}
use Rattle.srb_ancestors.specs.Search.{Searched}
use Rattle.srb_ancestors.proofs.search.leads.Given as goal

abbrev pub invariant-places : goal.invariant-places
invariant-places l = Searched (get bytes_eq l.rows) l.from l.to l.seen.keys l.at
