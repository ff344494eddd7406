use Rattle.rb_lex_laws.proofs.Listed.{keywords-listed, foreign-listed}
use Rattle.rb_lex_laws.proofs.known_words_are_listed.Goals as goal

pub returns-clause-keywords : goal.returns-clause-keywords
returns-clause-keywords c = keywords-listed

pub returns-clause-foreign : goal.returns-clause-foreign
returns-clause-foreign c = foreign-listed
