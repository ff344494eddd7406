use Rattle.rb_nesting_laws.proofs.Examples.{call-has-parts, call-nests, late-argument-nests-not, swapped-parts-nest-not}
use Rattle.rb_nesting_laws.proofs.examples_nest.Goals as goal

pub returns-clause-parts : goal.returns-clause-parts
returns-clause-parts c = call-has-parts

pub returns-clause-call : goal.returns-clause-call
returns-clause-call c = call-nests

pub returns-clause-late : goal.returns-clause-late
returns-clause-late c = late-argument-nests-not

pub returns-clause-swapped : goal.returns-clause-swapped
returns-clause-swapped c = swapped-parts-nest-not
