use Rattle.rb_grammar.proofs.Forms.{forms-derive}
use Rattle.rb_grammar.proofs.forms_derive.Goals as goal

pub returns : goal.returns
returns c = forms-derive
