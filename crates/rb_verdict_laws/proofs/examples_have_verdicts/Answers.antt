use Rattle.rb_verdict_laws.proofs.Examples.{sum-is-program, bracket-is-bad-token, name-is-wanted, negation-is-deep}
use Rattle.rb_verdict_laws.proofs.examples_have_verdicts.Goals as goal

pub returns-clause-program : goal.returns-clause-program
returns-clause-program c = sum-is-program

pub returns-clause-bad : goal.returns-clause-bad
returns-clause-bad c = bracket-is-bad-token

pub returns-clause-short : goal.returns-clause-short
returns-clause-short c = name-is-wanted

pub returns-clause-deep : goal.returns-clause-deep
returns-clause-deep c = negation-is-deep
