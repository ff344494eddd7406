use Rattle.rb_grammar_laws.proofs.Answers.{programs-answer, parsed-exactly}
use Rattle.rb_grammar_laws.proofs.programs_answer.Goals as goal

pub returns-clause-read : goal.returns-clause-read
returns-clause-read c = programs-answer

pub returns-clause-exactly : goal.returns-clause-exactly
returns-clause-exactly c = parsed-exactly
