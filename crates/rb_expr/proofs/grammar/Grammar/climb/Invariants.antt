use Rattle.std.proofs.Common.{◌≡◌, ◌-◌}
use Rattle.rb_expr.specs.Grammar.{parsed}
use Rattle.rb_expr.specs.Operators.{climb, climb_from}
use Rattle.rb_expr.proofs.grammar.Grammar.climb.Given as goal

abbrev pub invariant-loop-turn : goal.invariant-loop-turn
invariant-loop-turn g l = climb (parsed l.self.depth) l.self.depth l.self.takes_do l.least l.fn.left l.fn.tokens ≡ climb_from (parsed l.self.depth) l.self.depth l.self.takes_do l.least (l._turn-end - l._turn) l.most l.longest l.rest
