use Rattle.rb_nesting_laws.proofs.Laws.{trees-nest}
use Rattle.rb_nesting_laws.proofs.trees_nest.Goals as goal

pub returns : goal.returns
returns c = record { tokens = trees-nest }
