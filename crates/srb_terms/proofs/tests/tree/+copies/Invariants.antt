use Rattle.std.proofs.Common.{◌≡◌, take}
use Rattle.srb_terms.proofs.tests.tree.+copies.Given as goal

abbrev pub invariant-all_copied-trees : goal.invariant-all_copied-trees
invariant-all_copied-trees l = l.copies ≡ take l.tree-index l.trees
