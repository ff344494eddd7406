use Rattle.rb_lex_laws.proofs.Operators.{operators-found, method_operators-found, foreign-found}
use Rattle.rb_lex_laws.proofs.operators_are_found.Goals as goal

pub returns-clause-operators : goal.returns-clause-operators
returns-clause-operators c = operators-found

pub returns-clause-method_operators : goal.returns-clause-method_operators
returns-clause-method_operators c = method_operators-found

pub returns-clause-foreign : goal.returns-clause-foreign
returns-clause-foreign c = foreign-found
