use Rattle.rb_weight_laws.proofs.Examples.{modifier-counts, loop-opens-once, bars-count-not, body-begins-by-if, rescue-divides, block-weighs, method-weighs}
use Rattle.rb_weight_laws.proofs.examples_have_roles.Goals as goal

pub returns-clause-modifier : goal.returns-clause-modifier
returns-clause-modifier c = modifier-counts

pub returns-clause-loop_do : goal.returns-clause-loop_do
returns-clause-loop_do c = loop-opens-once

pub returns-clause-block : goal.returns-clause-block
returns-clause-block c = bars-count-not

pub returns-clause-method : goal.returns-clause-method
returns-clause-method c = body-begins-by-if

pub returns-clause-guarded : goal.returns-clause-guarded
returns-clause-guarded c = rescue-divides

pub returns-clause-block_weights : goal.returns-clause-block_weights
returns-clause-block_weights c = block-weighs

pub returns-clause-method_weights : goal.returns-clause-method_weights
returns-clause-method_weights c = method-weighs
