use Rattle.std.proofs.Common.{◌≡◌, ◌++◌, drop}
use Rattle.srb_table.specs.Steps.{left_of}
use Rattle.srb_table.proofs.counted.without.Given as goal

abbrev pub invariant-links : goal.invariant-links
invariant-links l = l.kept ++ left_of l.rest (drop l.link-index l.links) ≡ left_of l.fn.out l.links
