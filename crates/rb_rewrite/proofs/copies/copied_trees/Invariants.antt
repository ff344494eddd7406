use Rattle.std.proofs.Common.{◌≡◌, take}
use Rattle.rb_rewrite.proofs.copies.copied_trees.Given as goal

abbrev pub invariant-trees : goal.invariant-trees
invariant-trees l = l.copies ≡ take l.tree-index l.trees
