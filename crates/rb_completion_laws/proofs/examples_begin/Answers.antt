use Rattle.rb_completion_laws.proofs.Examples.{sign-refused, name-refused, end-refused, guard-refused, loop-refused}
use Rattle.rb_completion_laws.proofs.examples_begin.Goals as goal

pub returns-clause-sign : goal.returns-clause-sign
returns-clause-sign c = sign-refused

pub returns-clause-name : goal.returns-clause-name
returns-clause-name c = name-refused

pub returns-clause-end : goal.returns-clause-end
returns-clause-end c = end-refused

pub returns-clause-guard : goal.returns-clause-guard
returns-clause-guard c = guard-refused

pub returns-clause-begin_loop : goal.returns-clause-begin_loop
returns-clause-begin_loop c = loop-refused
