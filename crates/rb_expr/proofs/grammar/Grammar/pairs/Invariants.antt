use Rattle.std.proofs.Common.{◌≡◌, ◌-◌}
use Rattle.rb_expr.specs.Grammar.{parsed}
use Rattle.rb_expr.specs.Operands.{pairs, pairs_from}
use Rattle.rb_expr.proofs.grammar.Grammar.pairs.Given as goal

abbrev pub invariant-loop-turn : goal.invariant-loop-turn
invariant-loop-turn g l = pairs (parsed l.self.depth) l.self.depth l.self.takes_do l.start l.fn.tokens ≡ pairs_from (parsed l.self.depth) l.self.depth l.self.takes_do l.start (l._turn-end - l._turn) l.found l.rest
