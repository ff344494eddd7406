use Rattle.std.proofs.Common.{take}
use Rattle.srb_ancestors.specs.LinEnds.{NoneBegins}
use Rattle.srb_ancestors.proofs.linearization.first_circular.Given as goal

abbrev pub invariant-links : goal.invariant-links
invariant-links l = NoneBegins l.links (take l.link-index l.links)
