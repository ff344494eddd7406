use Rattle.rb_lex_laws.proofs.Levels.{given-found}
use Rattle.rb_lex_laws.proofs.given_levels_are_found.Goals as goal

pub returns : goal.returns
returns c = given-found
