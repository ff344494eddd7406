use Rattle.rb_expr_laws.proofs.Examples.{read, refused}
use Rattle.rb_expr_laws.proofs.examples_are_answered.Goals as goal

pub returns-clause-term : goal.returns-clause-term
returns-clause-term c = read.0

pub returns-clause-body : goal.returns-clause-body
returns-clause-body c = read.1

pub returns-clause-constant : goal.returns-clause-constant
returns-clause-constant c = read.2

pub returns-clause-operand : goal.returns-clause-operand
returns-clause-operand c = refused.0

pub returns-clause-deep : goal.returns-clause-deep
returns-clause-deep c = refused.1

pub returns-clause-bad : goal.returns-clause-bad
returns-clause-bad c = refused.2

pub returns-clause-guarded : goal.returns-clause-guarded
returns-clause-guarded c = refused.3

pub returns-clause-comparison : goal.returns-clause-comparison
returns-clause-comparison c = read.3

pub returns-clause-power : goal.returns-clause-power
returns-clause-power c = refused.4

pub returns-clause-parted : goal.returns-clause-parted
returns-clause-parted c = read.4

pub returns-clause-jump : goal.returns-clause-jump
returns-clause-jump c = read.5
