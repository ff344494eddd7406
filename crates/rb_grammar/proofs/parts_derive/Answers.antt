use Rattle.rb_grammar.proofs.Forms.{terms-derive, statements-derive, bodies-derive}
use Rattle.rb_grammar.proofs.parts_derive.Goals as goal

pub returns-clause-terms : goal.returns-clause-terms
returns-clause-terms c = terms-derive

pub returns-clause-statements : goal.returns-clause-statements
returns-clause-statements c = statements-derive

pub returns-clause-bodies : goal.returns-clause-bodies
returns-clause-bodies c = bodies-derive
