use Rattle.rb_completion_laws.proofs.Laws.{fronts-begin, refusals-are-ends}
use Rattle.rb_completion_laws.proofs.refused_fronts_begin.Goals as goal

pub returns-clause-fronts : goal.returns-clause-fronts
returns-clause-fronts c = fronts-begin

pub returns-clause-ends : goal.returns-clause-ends
returns-clause-ends c = refusals-are-ends
