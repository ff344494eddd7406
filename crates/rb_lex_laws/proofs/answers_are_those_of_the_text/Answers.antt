use Rattle.rb_lex_laws.proofs.Told.{tokens-told, outside-told, bad-told, each-told}
use Rattle.rb_lex_laws.proofs.answers_are_those_of_the_text.Goals as goal

pub returns-clause-tokens : goal.returns-clause-tokens
returns-clause-tokens c = tokens-told

pub returns-clause-outside : goal.returns-clause-outside
returns-clause-outside c = outside-told

pub returns-clause-bad : goal.returns-clause-bad
returns-clause-bad c = bad-told

pub returns-clause-some : goal.returns-clause-some
returns-clause-some c = each-told
