use Rattle.rb_grammar.proofs.CallExample.{call-derives}
use Rattle.rb_grammar.proofs.Examples.{examples}
use Rattle.rb_grammar.proofs.examples_derive.Goals as goal

pub returns-clause-sum : goal.returns-clause-sum
returns-clause-sum c = examples.0

pub returns-clause-power : goal.returns-clause-power
returns-clause-power c = examples.1

pub returns-clause-jump : goal.returns-clause-jump
returns-clause-jump c = examples.2

pub returns-clause-class : goal.returns-clause-class
returns-clause-class c = examples.3

pub returns-clause-guarded : goal.returns-clause-guarded
returns-clause-guarded c = examples.4

pub returns-clause-call : goal.returns-clause-call
returns-clause-call c = call-derives
