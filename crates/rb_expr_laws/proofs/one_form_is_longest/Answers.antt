use Rattle.rb_expr_laws.proofs.Reach.{forms-reach, one-reach, none-is-longer}
use Rattle.rb_expr_laws.proofs.one_form_is_longest.Goals as goal

pub returns-clause-reach : goal.returns-clause-reach
returns-clause-reach c = forms-reach

pub returns-clause-one : goal.returns-clause-one
returns-clause-one c = one-reach

pub returns-clause-longer : goal.returns-clause-longer
returns-clause-longer c = none-is-longer
