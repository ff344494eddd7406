use Rattle.std.proofs.Common.{rules, sym, ◌∙◌}
use denote.Enum.Bare.{same_true}
use Rattle.rb_tree.specs.contracts.token.Shape.{the_type}
use Rattle.rb_tree.specs.Tokens.{same_shape}
use Rattle.rb_tree.proofs.token.Shape.is.Goals as goal

pub returns-clause-value : goal.returns-clause-value
unfolding same_shape
returns-clause-value c = search rules

pub returns-clause-same : goal.returns-clause-same
returns-clause-same c is = same_true the_type (search rules) _ _ (sym c.eq.ensures ∙ is)
