use Rattle.rb_grammar_laws.proofs.Forms.{forms-answer, rescued-answer}
use Rattle.rb_grammar_laws.proofs.forms_answer.Goals as goal

pub returns-clause-read : goal.returns-clause-read
returns-clause-read c = forms-answer

pub returns-clause-rescued : goal.returns-clause-rescued
returns-clause-rescued c = rescued-answer
