use Rattle.rb_weight_laws.proofs.Laws.{roles-are-told}
use Rattle.rb_weight_laws.proofs.roles_are_told.Goals as goal

pub returns : goal.returns
returns c = roles-are-told
