use Rattle.rb_refusal_laws.proofs.Refused.{bad-tokens-are-refused, early-ends-are-refused}
use Rattle.rb_refusal_laws.proofs.bad_tokens_are_refused.Goals as goal

pub returns-clause-tokens : goal.returns-clause-tokens
returns-clause-tokens c = bad-tokens-are-refused

pub returns-clause-ends : goal.returns-clause-ends
returns-clause-ends c = early-ends-are-refused
