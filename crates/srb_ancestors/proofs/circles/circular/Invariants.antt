use Rattle.std.proofs.Common.{◌≡◌, ◌++◌, drop}
use Rattle.std.specs.List.{filter}
use Rattle.srb_rules.specs.Links.{is_circular, circular_links}
use Rattle.srb_ancestors.proofs.circles.circular.Given as goal

abbrev pub invariant-links : goal.invariant-links
invariant-links l = l.found ++ filter (is_circular l.links) (drop l.link-index l.links) ≡ circular_links l.links
