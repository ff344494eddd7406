use Rattle.rb_lex_laws.proofs.Words.{keywords-known, foreign-known}
use Rattle.rb_lex_laws.proofs.words_are_known.Goals as goal

pub returns-clause-keywords : goal.returns-clause-keywords
returns-clause-keywords c = keywords-known

pub returns-clause-foreign : goal.returns-clause-foreign
returns-clause-foreign c = foreign-known
