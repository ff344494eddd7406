use Rattle.rb_verdict_laws.proofs.Verdicts.{one-holds, no-two-hold, one-tree}
use Rattle.rb_verdict_laws.proofs.one_verdict_holds.Goals as goal

pub returns-clause-one : goal.returns-clause-one
returns-clause-one c = one-holds

pub returns-clause-only : goal.returns-clause-only
returns-clause-only c = no-two-hold

pub returns-clause-tree : goal.returns-clause-tree
returns-clause-tree c = one-tree
