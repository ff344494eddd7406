use Rattle.rb_refusal_laws.proofs.NoneBegins.{none-is-closed, none-is-nameless, none-names-twice, none-rescues-so, none-loops-so}
use Rattle.rb_refusal_laws.proofs.examples_begin_no_program.Goals as goal

pub returns-clause-closed : goal.returns-clause-closed
returns-clause-closed c = none-is-closed

pub returns-clause-nameless : goal.returns-clause-nameless
returns-clause-nameless c = none-is-nameless

pub returns-clause-twice : goal.returns-clause-twice
returns-clause-twice c = none-names-twice

pub returns-clause-guarded : goal.returns-clause-guarded
returns-clause-guarded c = none-rescues-so

pub returns-clause-looped : goal.returns-clause-looped
returns-clause-looped c = none-loops-so
