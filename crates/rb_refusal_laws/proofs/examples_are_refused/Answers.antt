use Rattle.rb_refusal_laws.proofs.Examples.{bracket-is-bad, name-is-awaited, loop-is-bad}
use Rattle.rb_refusal_laws.proofs.examples_are_refused.Goals as goal

pub returns-clause-bracket : goal.returns-clause-bracket
returns-clause-bracket c = bracket-is-bad

pub returns-clause-name : goal.returns-clause-name
returns-clause-name c = name-is-awaited

pub returns-clause-looped : goal.returns-clause-looped
returns-clause-looped c = loop-is-bad
