use Rattle.std.proofs.Common.{rules}
use Rattle.rb_weight.proofs.Alike.{answer-deep}
use Rattle.rb_weight.proofs.first_too_deep.Goals as goal

pub returns-clause-first : goal.returns-clause-first
returns-clause-first c = answer-deep _ c.args.tokens.now c.args.from c.args.weight c.args.here c.requires.part c.requires.light (search rules)
