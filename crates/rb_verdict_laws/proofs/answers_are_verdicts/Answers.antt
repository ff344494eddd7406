use Rattle.rb_verdict_laws.proofs.Verdicts.{verdicts-are-answered, answers-hold}
use Rattle.rb_verdict_laws.proofs.answers_are_verdicts.Goals as goal

pub returns-clause-answered : goal.returns-clause-answered
returns-clause-answered c = verdicts-are-answered

pub returns-clause-told : goal.returns-clause-told
returns-clause-told c = answers-hold
