use Rattle.std.proofs.Common.{◌≡◌, drop}
use Rattle.srb_ancestors.specs.Search.{with_ends}
use Rattle.srb_ancestors.proofs.search.add_ends.Given as goal

abbrev pub invariant-links : goal.invariant-links
invariant-links l = with_ends l.seen.keys (drop l.link-index l.row) ≡ with_ends l.initial.seen.keys l.row
