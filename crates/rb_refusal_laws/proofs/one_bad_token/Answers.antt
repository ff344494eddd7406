use Rattle.rb_refusal_laws.proofs.Fronts.{one-front, no-end-is-bad}
use Rattle.rb_refusal_laws.proofs.one_bad_token.Goals as goal

pub returns-clause-front : goal.returns-clause-front
returns-clause-front c = one-front

pub returns-clause-ends : goal.returns-clause-ends
returns-clause-ends c = no-end-is-bad
