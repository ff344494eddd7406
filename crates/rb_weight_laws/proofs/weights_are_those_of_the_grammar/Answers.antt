use Rattle.rb_weight_laws.proofs.Laws.{weights-are-those-of-the-grammar, fronts-have-the-weights}
use Rattle.rb_weight_laws.proofs.weights_are_those_of_the_grammar.Goals as goal

pub returns-clause-programs : goal.returns-clause-programs
returns-clause-programs c = weights-are-those-of-the-grammar

pub returns-clause-fronts : goal.returns-clause-fronts
returns-clause-fronts c = fronts-have-the-weights
