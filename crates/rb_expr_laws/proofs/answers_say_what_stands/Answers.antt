use Rattle.rb_expr_laws.proofs.Laws.{answers-say}
use Rattle.rb_expr_laws.proofs.answers_say_what_stands.Goals as goal

pub returns : goal.returns
returns c = answers-say
