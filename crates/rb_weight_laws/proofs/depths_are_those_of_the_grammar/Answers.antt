use Rattle.rb_weight_laws.proofs.Laws.{fronts-are-deep-by-roles}
use Rattle.rb_weight_laws.proofs.depths_are_those_of_the_grammar.Goals as goal

pub returns : goal.returns
returns c = fronts-are-deep-by-roles
