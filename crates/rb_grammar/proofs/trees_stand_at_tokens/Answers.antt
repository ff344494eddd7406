use Rattle.rb_grammar.proofs.Standing.{trees-stand-at-tokens}
use Rattle.rb_grammar.proofs.Nodes.{trees-stand-by-nodes}
use Rattle.rb_grammar.proofs.trees_stand_at_tokens.Goals as goal

pub returns-clause-tokens : goal.returns-clause-tokens
returns-clause-tokens c = trees-stand-at-tokens

pub returns-clause-nodes : goal.returns-clause-nodes
returns-clause-nodes c = trees-stand-by-nodes
