use Rattle.rb_text_laws.proofs.Examples.{sum-is-a-program, bracket-is-no-ruby, call-is-no-ruby, minus-is-no-ruby, global-is-outside, letter-is-outside, last-is-too-deep}
use Rattle.rb_text_laws.proofs.examples_have_verdicts.Goals as goal

pub returns-clause-sum : goal.returns-clause-sum
returns-clause-sum c = sum-is-a-program

pub returns-clause-bracket : goal.returns-clause-bracket
returns-clause-bracket c = bracket-is-no-ruby

pub returns-clause-call : goal.returns-clause-call
returns-clause-call c = call-is-no-ruby

pub returns-clause-minus : goal.returns-clause-minus
returns-clause-minus c = minus-is-no-ruby

pub returns-clause-global : goal.returns-clause-global
returns-clause-global c = global-is-outside

pub returns-clause-letter : goal.returns-clause-letter
returns-clause-letter c = letter-is-outside

pub returns-clause-deep : goal.returns-clause-deep
returns-clause-deep c = last-is-too-deep
