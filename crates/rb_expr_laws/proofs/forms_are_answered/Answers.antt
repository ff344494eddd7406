use Rattle.rb_expr_laws.proofs.Laws.{forms-end-there, forms-are-read, lone-forms-are-read, no-forms-are-refused, deep-forms-are-refused}
use Rattle.rb_expr_laws.proofs.forms_are_answered.Goals as goal

pub returns-clause-either : goal.returns-clause-either
returns-clause-either c = forms-end-there

pub returns-clause-read : goal.returns-clause-read
returns-clause-read c = forms-are-read

pub returns-clause-lone : goal.returns-clause-lone
returns-clause-lone c = lone-forms-are-read

pub returns-clause-refused : goal.returns-clause-refused
returns-clause-refused c = no-forms-are-refused

pub returns-clause-deep : goal.returns-clause-deep
returns-clause-deep c = deep-forms-are-refused
