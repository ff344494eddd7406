use Rattle.rb_decl.proofs.Weights.{answer-meets}
use Rattle.rb_decl.proofs.parse.Goals as goal

pub returns-clause-weight : goal.returns-clause-weight
returns-clause-weight c = answer-meets c.args.tokens.now _ c.parse.ensures
