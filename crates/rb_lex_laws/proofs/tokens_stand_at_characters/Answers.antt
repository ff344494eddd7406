use Rattle.rb_lex_laws.proofs.Standing.{tokens-stand, places-start}
use Rattle.rb_lex_laws.proofs.tokens_stand_at_characters.Goals as goal

pub returns-clause-tokens : goal.returns-clause-tokens
returns-clause-tokens c = tokens-stand

pub returns-clause-places : goal.returns-clause-places
returns-clause-places c = places-start
