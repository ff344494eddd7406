use Rattle.rb_grammar_laws.proofs.Begins.{term-begins, simple-begins, body-begins, rescued-begins}
use Rattle.rb_grammar_laws.proofs.forms_begin.Goals as goal

pub returns-clause-terms : goal.returns-clause-terms
returns-clause-terms c = term-begins

pub returns-clause-simple : goal.returns-clause-simple
returns-clause-simple c = simple-begins

pub returns-clause-bodies : goal.returns-clause-bodies
returns-clause-bodies c = body-begins

pub returns-clause-rescued : goal.returns-clause-rescued
returns-clause-rescued c = rescued-begins
