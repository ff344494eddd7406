use Rattle.rb_completion_laws.proofs.Laws.{terms-begin, statements-begin, bodies-begin}
use Rattle.rb_completion_laws.proofs.refused_forms_begin.Goals as goal

pub returns-clause-terms : goal.returns-clause-terms
returns-clause-terms c = terms-begin

pub returns-clause-statements : goal.returns-clause-statements
returns-clause-statements c = statements-begin

pub returns-clause-bodies : goal.returns-clause-bodies
returns-clause-bodies c = bodies-begin
