use Rattle.rb_refusal_laws.proofs.Refused.{deep-tokens-are-refused}
use Rattle.rb_refusal_laws.proofs.deep_tokens_are_refused.Goals as goal

pub returns : goal.returns
returns c = deep-tokens-are-refused
