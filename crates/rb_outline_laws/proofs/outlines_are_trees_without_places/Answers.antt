use Rattle.rb_outline_laws.proofs.Law.{outlines-are-trees}
use Rattle.rb_outline_laws.proofs.outlines_are_trees_without_places.Goals as goal

pub returns : goal.returns
returns c = outlines-are-trees
