use Rattle.rb_grammar.proofs.Misplaced.{late-stands-not, late-argument-stands-not, reversed-argument-stands-not}
use Rattle.rb_grammar.proofs.misplaced_trees_stand_not.Goals as goal

pub returns-clause-operand : goal.returns-clause-operand
returns-clause-operand c = late-stands-not

pub returns-clause-argument : goal.returns-clause-argument
returns-clause-argument c = late-argument-stands-not

pub returns-clause-reversed : goal.returns-clause-reversed
returns-clause-reversed c = reversed-argument-stands-not
