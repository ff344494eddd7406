use Rattle.rb_lex_laws.proofs.Asked.{level-told}
use Rattle.rb_lex_laws.proofs.level_is_that_of_the_text.Goals as goal

pub returns : goal.returns
returns c = level-told
