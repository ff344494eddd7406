use Rattle.rb_prefix_laws.proofs.Laws.{forms-are-refused-alike, forms-are-refused-sooner, forms-end-alike, forms-need-no-more-depth}
use Rattle.rb_prefix_laws.proofs.forms_look_no_further.Goals as goal

pub returns-clause-refused : goal.returns-clause-refused
returns-clause-refused c = forms-are-refused-alike

pub returns-clause-sooner : goal.returns-clause-sooner
returns-clause-sooner c = forms-are-refused-sooner

pub returns-clause-ends : goal.returns-clause-ends
returns-clause-ends c = forms-end-alike

pub returns-clause-depth : goal.returns-clause-depth
returns-clause-depth c = forms-need-no-more-depth
